pub mod SourceNesting
pub mod Runnable
pub mod DerivedUnit
pub mod Drivers
pub mod Lookup
