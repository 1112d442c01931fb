pub mod Equations
pub mod Outcomes
pub mod FormValues
pub mod CodeLaws
pub mod NumberRanges
pub mod Conversions
pub mod Never
pub mod Peeking
pub mod Telling
pub mod Acting
pub mod FormNumbers
pub mod LocalAtoms
pub mod Meeting
pub mod Moving
pub mod Multiples
pub mod RedundantChecks
pub mod BranchFacts
pub mod Waiting
pub mod LightSums
pub mod WordValues
pub mod Listings
mod Sample
mod ExpressionExamples
mod ConditionExamples
mod StatementExamples
mod StepExamples
mod FlowExamples
mod LimitExamples
mod ReturnExamples
mod ToldExamples
mod KnownExamples
mod RedundantExamples
