pub mod AtLine
pub mod Found
pub mod Light
