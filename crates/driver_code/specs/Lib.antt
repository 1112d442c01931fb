pub mod Meaning
pub mod Running
pub mod Results
pub mod Statements
pub mod Simulation
pub mod Listing
