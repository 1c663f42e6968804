pub mod Transmissions
pub mod Repeating
pub mod Confirming
pub mod SureStarts
pub mod Tracks
