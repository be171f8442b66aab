pub mod States
pub mod Events
pub mod Steps
pub mod Runs
pub mod Outcomes
