-- The header of the built task: its listed pairs in turns, and its words.
pub mod Pairs
pub mod Header
