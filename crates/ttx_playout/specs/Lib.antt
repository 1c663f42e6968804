pub mod Schedules
pub mod LateSchedules
pub mod LateChanges
pub mod Laws
pub mod Takeovers
