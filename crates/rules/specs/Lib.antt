pub mod Envelopes
pub mod Asking
pub mod Placing
pub mod Trying
pub mod Starting
pub mod Settling
pub mod Calls
pub mod Promise
