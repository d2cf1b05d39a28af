pub mod Answer
pub mod Fits
