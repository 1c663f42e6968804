pub mod Packets
pub mod Forms
pub mod Recognition
pub mod Lines
pub mod Recorded
