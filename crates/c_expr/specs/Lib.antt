pub mod Classes
pub mod ExpressionReading
pub mod Looking
pub mod Members
pub mod Strength
pub mod Tokens
pub mod TypeReading
