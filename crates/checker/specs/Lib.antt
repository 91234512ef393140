pub mod Clocks
pub mod Rules
pub mod Answers
pub mod Private
