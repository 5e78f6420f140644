pub mod Splits
pub mod Compared
pub mod Wrongs
pub mod Stamps
pub mod Widths
pub mod Places
pub mod Numbered
