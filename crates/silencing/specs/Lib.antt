-- The marks of silence(task, marks, room), the file that it writes in parts, and what it answers.
pub mod Marks
pub mod Parts
pub mod Answer
