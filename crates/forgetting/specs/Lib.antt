-- Which forgetting operators a built task keeps, by its header.
pub mod Out
pub mod Kept
