-- How answers become numbers, and what a caller reads back.
pub mod Code
pub mod Back
