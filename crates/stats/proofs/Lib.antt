pub mod Tables
pub mod Tallies
pub mod Blocks
pub mod Along
pub mod Costs
pub mod Totals
pub mod Entries
pub mod Adding
