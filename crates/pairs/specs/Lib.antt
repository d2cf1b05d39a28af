pub mod Places
pub mod Ready
pub mod Judge
pub mod None
pub mod Fill
pub mod Walk
