-- What the checker answers.
pub mod Breaking
pub mod Answer
pub mod Forgetting
pub mod Weigh
