pub mod Numbers
pub mod Codec
pub mod Reading
pub mod Puts
pub mod Copies
pub mod Known
pub mod Writes
