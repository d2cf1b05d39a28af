-- That every value fits, what a caller reads back, and what an operator on slices is.
pub mod Fits
pub mod Back
pub mod Places
