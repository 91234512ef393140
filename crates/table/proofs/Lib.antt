pub mod Tests
pub mod Lists
pub mod Entries
pub mod Registers
pub mod Tables
pub mod Linked
pub mod PlainRows
pub mod AnswerLaws
mod BitLaws
pub mod Lengths
mod Accepting
mod Records
mod Windows
mod Puts
mod RowLaws
pub mod ReadLaws
mod StoreLaws
mod ByteLaws
mod WriteLaws
pub mod RoundTrip
