pub mod Ordered
pub mod ClaimRows
pub mod ClaimCalls
pub mod ClaimPart
