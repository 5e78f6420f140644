pub mod Lines
pub mod Fields
pub mod Verdicts
pub mod Rules
pub mod Checks
pub mod Judged
pub mod Shown
