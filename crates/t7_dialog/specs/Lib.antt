pub mod Saying
pub mod Reaching
pub mod Asking
pub mod Serving
pub mod Coming
pub mod Knowing
