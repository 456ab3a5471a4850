pub mod Cells
pub mod Draws
pub mod Events
pub mod Inside
pub mod Lines
