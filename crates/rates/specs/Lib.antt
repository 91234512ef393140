pub mod Joins
pub mod Fillings
pub mod Given
pub mod Private
