pub mod Drivers
pub mod Hosting
pub mod Told
pub mod Grounds
pub mod Waiting
