pub mod Counts
pub mod Firsts
pub mod Names
pub mod Pairs
pub mod Slots
pub mod Stars
