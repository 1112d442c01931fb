pub mod FunctionSteps
pub mod ItemSteps
pub mod LaidOut
pub mod Leftovers
pub mod ShortItems
pub mod StatementEquations
