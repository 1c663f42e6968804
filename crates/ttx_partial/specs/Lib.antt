pub mod Asides
pub mod Others
pub mod Laws
pub mod LeftOut
pub mod Partials
pub mod Lines
