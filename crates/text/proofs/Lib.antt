pub mod Figures
pub mod Joins
