pub mod Parts
pub mod Answers
pub mod PartChecks
pub mod Given
pub mod Private
