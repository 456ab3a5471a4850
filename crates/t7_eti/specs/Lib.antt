pub mod Framed
pub mod Nulls
pub mod Ranges
pub mod Reasons
pub mod Requests
pub mod Responses
pub mod Saying
pub mod Tests
