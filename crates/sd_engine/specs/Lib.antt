pub mod Serve
pub mod Running
pub mod Statuses
