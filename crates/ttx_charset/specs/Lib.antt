pub mod Glyphs
pub mod Laws
