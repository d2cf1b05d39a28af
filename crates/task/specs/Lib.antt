-- What is said of a task file.
pub mod Walk
pub mod Rest
pub mod Header
pub mod Answer
