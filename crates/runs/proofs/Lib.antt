pub mod Since
pub mod Ends
pub mod Lines
pub mod Locks
pub mod Effects
pub mod Ways
pub mod Law
