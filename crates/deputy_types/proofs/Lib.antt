pub mod NameEquality
pub mod ElementEquality
pub mod MemberEquality
pub mod KeyCounts
pub mod DeclaredFacts
pub mod Inversions
pub mod TypeExtents
pub mod MembersLie
