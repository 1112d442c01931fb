pub mod Bytes
pub mod Tested
pub mod Writes
