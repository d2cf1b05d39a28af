-- A slot area: the slots that its words hold, and what the code does to them.
pub mod Change
pub mod Reducing
pub mod Area
pub mod Waiting
pub mod Inserting
pub mod Settling
pub mod Find
pub mod Shape
