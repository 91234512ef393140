mod Lines
mod Joined
mod Texts
pub mod Sizes
