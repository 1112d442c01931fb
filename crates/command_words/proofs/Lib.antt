pub mod Bounds
pub mod Examples
pub mod Walking
pub mod HandedOn
pub mod Parts
