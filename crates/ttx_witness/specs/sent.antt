pub mod ItemTransmissions
pub mod Collected
pub mod AllSent
pub mod OneSlot
pub mod IndexedHeaders
