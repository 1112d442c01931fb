pub mod Linear
pub mod Merged
pub mod Normed
pub mod Inequality
pub mod Weight
