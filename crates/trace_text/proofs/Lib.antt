pub mod Splits
pub mod Values
pub mod Words
pub mod Digits
pub mod Law
pub mod Placing
