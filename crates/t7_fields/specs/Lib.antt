pub mod Inside
pub mod Messages
pub mod Puts
pub mod Records
pub mod Spelling
pub mod Writing
