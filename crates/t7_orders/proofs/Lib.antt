pub mod GrowFacts
pub mod JudgedFacts
pub mod ResponseFacts
pub mod TableFacts
pub mod TakenFacts
