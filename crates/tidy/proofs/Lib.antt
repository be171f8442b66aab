pub mod Sounds
pub mod Marks
pub mod Order
pub mod Picking
pub mod Turns
