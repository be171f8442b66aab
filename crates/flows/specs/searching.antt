pub mod Fits
pub mod Prices
pub mod Views
pub mod Ways
