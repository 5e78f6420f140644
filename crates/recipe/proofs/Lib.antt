pub mod Fits
pub mod Straight
pub mod Low
pub mod Granted
pub mod Owned
pub mod Going
