pub mod ClockLaws
pub mod RuleLaws
pub mod CheckLaws
pub mod WordLaws
pub mod Laws
pub mod Agree
mod ByRow
pub mod Folds
pub mod Giving
pub mod Checks
pub mod Bounds
pub mod Causes
