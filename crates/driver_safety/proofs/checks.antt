pub mod Reached
pub mod Sounding
pub mod Evaluations
pub mod NumberedChecks
pub mod TestedChecks
pub mod LineRules
pub mod GivenOutcomes
