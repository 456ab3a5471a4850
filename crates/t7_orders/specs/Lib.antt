pub mod Answers
pub mod Judged
pub mod Laws
