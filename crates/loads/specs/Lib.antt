pub mod Loads
pub mod Shown
pub mod WorkedOut
pub mod Private
