pub mod Instants
pub mod Texts
pub mod Clocks
pub mod Zones
pub mod AirClocks
