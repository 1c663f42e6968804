mod StoredRows
pub mod StepsOverPage
mod TakenAndKept
mod ReceivedPackets
mod Runs
mod TakenItems
mod BlankItems
mod SlotDistances
mod ReceivedPage
mod ItemIsHeld
mod PassedPackets
mod StarvedBytes
mod StarvedSteps
mod StarvedUnder
mod StarvedReceived
mod StarvedFormer
mod StarvedStays
mod StarvedScript
mod StayingShown
pub mod KeptMemories
mod FollowedRows
