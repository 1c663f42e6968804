pub mod Infos
pub mod Laws
