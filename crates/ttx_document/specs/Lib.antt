pub mod Escapes
pub mod Frames
