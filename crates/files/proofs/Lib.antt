mod Overlaid
pub mod Laws
mod Rows
pub mod Again
pub mod Takes
pub mod Headed
