pub mod RangeFacts
pub mod RowFacts
