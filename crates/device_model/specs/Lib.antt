pub mod Scripted
pub mod Links
