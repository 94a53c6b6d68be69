pub mod Levels
pub mod Spreading
pub mod Sweeps
