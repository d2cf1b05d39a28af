-- The file of a built task in parts, and what is written of it.
pub mod Parts
pub mod Answer
