pub mod Called
pub mod Long
pub mod LongRuns
pub mod Private
