pub mod Always
pub mod SimpleForms
pub mod BracketsKept
pub mod SourceDepth
pub mod CheckedDepth
pub mod RunnableUnits
pub mod FewFunctions
