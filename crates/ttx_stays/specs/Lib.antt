pub mod ShortNumbers
pub mod UnkeptStays
pub mod StayWarnings
