pub mod Tracking
pub mod Rules
pub mod Told
pub mod IntsFit
pub mod Held
pub mod Called
pub mod Examples
pub mod CallsInStep
