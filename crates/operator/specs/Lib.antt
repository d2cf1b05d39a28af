pub mod Entries
pub mod Records
pub mod Laws
pub mod Known
pub mod Fold
