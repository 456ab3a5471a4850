pub mod Asked
pub mod Heartbeats
pub mod Held
pub mod Inside
pub mod Refused
pub mod Steps
pub mod Tests
