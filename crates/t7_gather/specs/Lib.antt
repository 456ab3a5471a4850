pub mod Clauses
pub mod Gathering
pub mod Steps
pub mod Turns
