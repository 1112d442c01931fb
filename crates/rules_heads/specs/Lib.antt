pub mod AreFewItems
pub mod Names
pub mod Places
