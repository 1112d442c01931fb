pub mod Cutting
pub mod Digits
pub mod Counting
pub mod Outcome
pub mod Fitting
pub mod Ruling
mod Staging
