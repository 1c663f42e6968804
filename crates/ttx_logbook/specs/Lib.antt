pub mod Cuts
pub mod Steps
pub mod Numbers
pub mod LogTexts
pub mod Views
pub mod SettingsReading
pub mod EntryReading
pub mod Logs
