pub mod Decimal
pub mod Columns
pub mod Writing
