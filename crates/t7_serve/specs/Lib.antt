pub mod Casts
pub mod Clauses
pub mod Fronts
pub mod Served
pub mod Servers
pub mod Turns
pub mod Venues
