pub mod Telling
pub mod RowCounts
