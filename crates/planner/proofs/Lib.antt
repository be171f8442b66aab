mod Made
pub mod Filed
