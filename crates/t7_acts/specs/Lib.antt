pub mod Next
pub mod Left
pub mod Added
pub mod InStep
