pub mod Answers
pub mod Locks
pub mod Masks
pub mod Holds
pub mod Queue
pub mod Rows
pub mod Table
