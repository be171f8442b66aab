pub mod Joined
pub mod Reach
pub mod Closed
