pub mod Comparing
pub mod Faults
pub mod FirstSlots
pub mod OtherSubpages
pub mod Reasons
