pub mod Gap
pub mod Puts
pub mod Ring
pub mod Inside
