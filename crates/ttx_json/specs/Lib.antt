pub mod Objects
pub mod Members
