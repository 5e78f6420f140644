pub mod Issued
pub mod Holding
pub mod Bumping
