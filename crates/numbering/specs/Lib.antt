pub mod Sizes
pub mod Sums
pub mod Blocks
pub mod Planes
pub mod Order
