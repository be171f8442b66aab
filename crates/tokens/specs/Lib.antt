pub mod Faults
pub mod Tokens
