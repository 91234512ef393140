-- What the program's own functions are held to. No reader of its output needs these.
pub mod Inputs
