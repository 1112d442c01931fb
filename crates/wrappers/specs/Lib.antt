pub mod Served
pub mod Text
pub mod Contexts
pub mod Rows
pub mod Replies
pub mod Serving
pub mod InStep
