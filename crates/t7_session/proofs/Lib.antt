pub mod Refusals
pub mod TestFacts
