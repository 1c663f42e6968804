pub mod Texts
pub mod Kinds
pub mod Places
pub mod Lines
pub mod Laws
