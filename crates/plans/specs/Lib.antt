pub mod Keeping
pub mod Lists
pub mod Passing
pub mod Orders
