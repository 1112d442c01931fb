pub mod declarations
pub mod checks
pub mod expressions
pub mod assignments
pub mod memory
pub mod calls
pub mod steps
