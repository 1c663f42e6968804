pub mod Devices
pub mod Feeds
pub mod Reports
