pub mod Cells
pub mod Operators
pub mod TwosComplement
pub mod Runs
pub mod Answers
pub mod Windows
