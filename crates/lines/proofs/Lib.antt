pub mod Again
pub mod Takes
