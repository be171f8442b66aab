pub mod Figures
pub mod Worked
