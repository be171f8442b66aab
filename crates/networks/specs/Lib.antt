pub mod Limits
pub mod Stops
pub mod Answers
pub mod Bounding
pub mod Nets
pub mod Locks
pub mod Rings
