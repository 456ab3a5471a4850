pub mod MessageFacts
pub mod NameFacts
pub mod PatchFacts
pub mod PutFacts
pub mod SpellFacts
pub mod ViewFacts
pub mod WriteFacts
