pub mod Keyed
pub mod Ordered
pub mod Sorting
pub mod Firing
pub mod Tables
pub mod Live
