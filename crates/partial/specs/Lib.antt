-- What stands before the operators of a partial task file, and how the code reads it.
pub mod Front
pub mod Goal
pub mod States
