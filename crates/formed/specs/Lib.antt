-- When words are a well formed workspace, and how that is told part by part.
pub mod Tests
pub mod Parts
pub mod Formed
