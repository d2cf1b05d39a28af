-- The words of the pairs that are kept and dropped, and what the calls answer.
pub mod Answer
