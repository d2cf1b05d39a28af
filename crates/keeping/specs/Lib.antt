-- Pairs that are kept: a state as an operator, marks, an operator's turn, passes, and what keeps a list from being good.
pub mod Standing
pub mod Marks
pub mod Turn
pub mod Pass
pub mod Keep
pub mod Fault
