pub mod Stepping
pub mod Opened
pub mod Making
pub mod Whole
pub mod Every
pub mod Passable
