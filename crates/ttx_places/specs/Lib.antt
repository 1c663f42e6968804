pub mod Laws
pub mod Paths
pub mod Places
pub mod Positions
pub mod Signs
pub mod Tables
