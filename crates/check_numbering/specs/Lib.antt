pub mod Building
pub mod Weighed
pub mod Outcome
pub mod Placed
