pub mod Numbers
pub mod Chosen
pub mod Renumbering
pub mod Moving
pub mod Outcomes
pub mod Carried
pub mod PartTables
pub mod LeastParts
pub mod SamePart
pub mod PartChecks
pub mod Given
mod Ranks
mod Storing
mod Choosing
