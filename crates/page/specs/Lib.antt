pub mod Placing
pub mod Sheet
pub mod Text
