-- What the code does to words, and what that means for the sets that the words hold.
pub mod Bits
pub mod Change
pub mod Part
pub mod Written
pub mod Parity
pub mod Next
pub mod Members
pub mod Toggled
