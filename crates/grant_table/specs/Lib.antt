pub mod BlockRows
pub mod GrantPart
