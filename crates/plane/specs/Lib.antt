pub mod Fractions
pub mod Points
pub mod Directions
pub mod Whole
pub mod Rings
