pub mod Asking
pub mod Drilled
pub mod Entering
pub mod Feeding
pub mod Inside
pub mod Kits
pub mod Telling
pub mod Worlds
