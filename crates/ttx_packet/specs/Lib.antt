pub mod Slots
pub mod Lent
pub mod Receptions
pub mod Laws
