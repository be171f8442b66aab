pub mod Tests
pub mod Foretelling
pub mod Forced
pub mod Figured
