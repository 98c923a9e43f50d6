pub mod Account
pub mod Changes
pub mod History
pub mod Laws
pub mod Ledger
pub mod Time
