pub mod Inputs
pub mod Traces
pub mod Tallies
pub mod TwosComplement
pub mod Windows
