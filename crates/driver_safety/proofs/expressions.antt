pub mod PlaceRules
pub mod ReadRules
pub mod FitsAndReaches
pub mod Steps
pub mod PointerRules
pub mod TextRules
pub mod Expressions
pub mod OperatorRules
