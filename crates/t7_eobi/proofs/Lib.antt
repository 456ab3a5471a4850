pub mod FaultFacts
pub mod FirstFaultFacts
pub mod GrammarFacts
pub mod ItemFacts
pub mod MessageFacts
pub mod RangeFacts
pub mod SayingFacts
pub mod WalkFacts
