-- What opening says of a workspace.
pub mod Answer
pub mod Adding
pub mod Later
pub mod Step
pub mod Begin
pub mod Forgotten
pub mod Accepted
