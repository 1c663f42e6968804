pub mod Ids
pub mod Control
pub mod Fields
pub mod Headers
pub mod Laws
