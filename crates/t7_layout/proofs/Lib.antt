mod WordFacts
pub mod BytesFacts
pub mod FaultFacts
pub mod FoundFacts
pub mod ImageFacts
pub mod IndexFacts
pub mod KeptFacts
pub mod LawFacts
pub mod LookupFacts
pub mod NameFacts
pub mod NullFacts
pub mod PairFacts
pub mod RoleFacts
pub mod RowFacts
pub mod SpellingFacts
pub mod TableFacts
pub mod TextFacts
