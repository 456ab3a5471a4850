pub mod Clocks
pub mod Cuts
pub mod Items
pub mod Noting
pub mod Receipts
pub mod Telling
