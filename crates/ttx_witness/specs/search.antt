pub mod Finding
pub mod Surveys
