pub mod Asking
pub mod Counting
pub mod Ending
pub mod Growing
pub mod Keeping
pub mod Printed
pub mod Stepping
pub mod Watching
