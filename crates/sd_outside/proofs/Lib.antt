pub mod Counting
pub mod Distinct
pub mod More
pub mod Naming
pub mod NoFaults
pub mod Reading
