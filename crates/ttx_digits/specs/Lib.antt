pub mod Digits
pub mod PageIds
pub mod ControlNames
pub mod Laws
