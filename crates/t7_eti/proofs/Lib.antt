pub mod FramedFacts
pub mod AgainFacts
pub mod NullFacts
pub mod OwnFacts
pub mod RangeFacts
pub mod SayingFacts
