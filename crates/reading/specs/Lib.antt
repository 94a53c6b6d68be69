pub mod Causes
pub mod Refusals
pub mod Limits
pub mod TruePoints
pub mod Makes
pub mod Itself
pub mod Printed
