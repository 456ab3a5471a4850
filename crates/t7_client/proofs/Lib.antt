pub mod Sizes
pub mod Reading
pub mod Treating
pub mod Results
pub mod Continuing
pub mod FrontFacts
pub mod Numbers
