-- What the code's own functions are held to. No public contract cites these, and no reader of one needs them.
pub mod Steps
pub mod Plans
