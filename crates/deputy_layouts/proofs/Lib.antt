pub mod FoundBlocks
pub mod WordBytes
pub mod LayoutExamples
