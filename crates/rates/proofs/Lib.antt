pub mod Joining
pub mod Rising
pub mod Judging
pub mod Unique
pub mod Spreading
pub mod Given
mod Stepping
mod Passing
mod Answering
