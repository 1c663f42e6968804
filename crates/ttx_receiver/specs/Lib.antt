pub mod Reading
pub mod Starving
pub mod Laws
pub mod Tuning
pub mod Staying
pub mod Touching
