pub mod Calls
pub mod Refusals
pub mod Unlocks
pub mod Ledger
pub mod Accounts
pub mod Law
pub mod Along
