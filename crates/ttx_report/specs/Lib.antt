pub mod Dates
pub mod Verdicts
pub mod Waits
pub mod Files
pub mod Reports
