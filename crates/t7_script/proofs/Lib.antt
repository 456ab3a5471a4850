pub mod Clearing
pub mod Splitting
