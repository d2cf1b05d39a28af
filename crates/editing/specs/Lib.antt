-- What the code's answers say, what is judged of an operand, and what an edit leaves.
pub mod Answers
pub mod Operand
pub mod Judging
pub mod Change
pub mod Follows
