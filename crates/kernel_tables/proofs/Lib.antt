pub mod Looking
pub mod Shown
mod Examples
