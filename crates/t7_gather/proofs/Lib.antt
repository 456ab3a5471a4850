pub mod Finishing
pub mod Grown
pub mod Meeting
pub mod Recovering
pub mod Reporting
pub mod Sending
