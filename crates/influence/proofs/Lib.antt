pub mod Plans
pub mod Conditions
pub mod Alike
mod Masking
mod Calls
pub mod FeltSets
pub mod Histories
pub mod Influence
pub mod LongRuns
