pub mod Cases
pub mod Calendar
