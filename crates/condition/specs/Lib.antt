pub mod Ends
pub mod Walk
pub mod Slotted
pub mod Later
pub mod Holds
