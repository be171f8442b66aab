pub mod Flows
pub mod Kilter
pub mod Laps
pub mod Cuts
pub mod Settles
pub mod Stops
pub mod Passing
pub mod searching
