pub mod NetLists
pub mod NetRows
pub mod NetPart
pub mod Places
pub mod Answered
pub mod Entries
pub mod Undoing
pub mod Tracking
