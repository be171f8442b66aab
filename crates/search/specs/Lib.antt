pub mod Ready
pub mod Going
pub mod Settling
