pub mod Untouched
pub mod Demands
