pub mod Answer
pub mod Sought
pub mod Text
pub mod Fits
