mod NearBytes
mod FeedStreaks
mod KeptIsWithin
mod SlotOwners
mod HeardSlot
mod FirstState
mod CountedCells
mod LongestStreaks
mod WrongBytes
mod DueSlots
pub mod HeardFeeds
mod HeardMore
mod MisfitCounts
mod WaitingSlots
pub mod SteppedFeeds
mod FollowedFeeds
mod ReportedFeeds
