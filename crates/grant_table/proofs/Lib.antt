pub mod Arena
pub mod Places
pub mod GrantedBlocks
pub mod GrantPartKept
pub mod GrantServes
