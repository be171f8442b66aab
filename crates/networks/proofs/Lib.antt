pub mod Back
pub mod Numbered
pub mod Places
pub mod Keeping
pub mod Shown
