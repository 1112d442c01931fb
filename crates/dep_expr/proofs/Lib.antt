pub mod Integers
pub mod Sizes
pub mod Values
pub mod Canonical
pub mod Merging
pub mod Collapsing
pub mod Dividing
pub mod Norming
pub mod Implying
pub mod Deciding
pub mod Weights
mod Examples
