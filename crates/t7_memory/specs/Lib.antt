pub mod ClockStates
pub mod LinesStates
pub mod LinkStates
pub mod Notes
pub mod Rooms
