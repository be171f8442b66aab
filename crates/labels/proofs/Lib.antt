pub mod More
pub mod Extending
pub mod Rooming
pub mod Trails
