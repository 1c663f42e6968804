pub mod DueItems
pub mod LeastDeadline
pub mod HeaderLimits
pub mod Surveys
