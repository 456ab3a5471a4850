pub mod Recovering
pub mod Hearing
pub mod Sound
pub mod Told
pub mod Fronts
pub mod Inside
pub mod Going
