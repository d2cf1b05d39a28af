pub mod Moves
pub mod Given
pub mod Change
pub mod Base
pub mod Apart
pub mod Rows
