pub mod Standing
pub mod Places
pub mod TableRows
pub mod KernelRows
