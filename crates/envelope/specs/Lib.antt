pub mod Years
pub mod Rooms
pub mod Runs
pub mod Corners
pub mod Calling
pub mod Replays
