pub mod Fronts
pub mod Numerals
mod Tens
