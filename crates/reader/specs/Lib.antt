pub mod Answer
pub mod After
pub mod Lists
pub mod Features
pub mod Header
pub mod Front
pub mod States
pub mod Pairs
