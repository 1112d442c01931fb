pub mod Waiting
pub mod Linking
