-- What the judge of a partial task file answers, and what it judges of the built task.
pub mod Answer
pub mod Last
pub mod Whole
pub mod Front
pub mod With
