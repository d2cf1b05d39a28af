pub mod Allowed
pub mod Answer
pub mod Parts
