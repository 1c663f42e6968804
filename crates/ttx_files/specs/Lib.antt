pub mod Devices
pub mod Texts
pub mod Inputs
pub mod Feeds
pub mod Answers
pub mod Telling
pub mod Judging
pub mod Known
