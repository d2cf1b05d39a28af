-- Where the parts of a workspace stand, and what they are.
pub mod Places
pub mod Parts
