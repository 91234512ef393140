pub mod Sets
pub mod Reach
pub mod Closures
pub mod Private
