pub mod States
pub mod Decide
pub mod Table
pub mod Lots
pub mod Orders
