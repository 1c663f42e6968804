pub mod NoFault
pub mod FirstSlots
pub mod OverOnePeriod
pub mod CollectedSlots
pub mod PageSubcodes
pub mod OtherSubpages
pub mod SentBytes
