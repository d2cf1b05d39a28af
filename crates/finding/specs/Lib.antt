-- What the finder's answer says, and that what the slots give is what is to be found.
pub mod Search
pub mod Found
