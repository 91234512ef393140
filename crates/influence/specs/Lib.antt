pub mod Felt
pub mod Influence
pub mod LongRuns
