pub mod Unreadable
pub mod OneVerdict
pub mod Grounded
