pub mod SetBits
pub mod SetLists
pub mod Closing
pub mod Closures
mod Sweeping
mod Answering
