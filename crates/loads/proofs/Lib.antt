pub mod Rounding
pub mod Lines
pub mod Keys
pub mod Orders
mod Sums
mod Sorting
pub mod Widths
pub mod Pages
pub mod Shown
pub mod WorkedOut
