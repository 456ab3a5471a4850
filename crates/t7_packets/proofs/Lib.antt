pub mod ActFacts
pub mod PackFacts
