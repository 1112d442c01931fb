pub mod GrammarExamples
pub mod ShortFunctions
pub mod ShortParts
pub mod StatementForms
pub mod WordExamples
pub mod SlotExamples
