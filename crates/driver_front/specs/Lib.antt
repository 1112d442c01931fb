pub mod Verdict
pub mod Parts
pub mod Grounds
pub mod Reasons
