pub mod Granting
pub mod Hosting
pub mod Printing
pub mod Grounds
