pub mod HeldCounts
pub mod SideWords
pub mod Locations
pub mod Walks
pub mod LowestSoFar
pub mod Cornered
pub mod Tryings
pub mod PassSteps
pub mod Starting
mod Counting
mod Searches
pub mod Fewer
pub mod Callings
pub mod Replaying
