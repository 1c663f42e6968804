pub mod KeptSlots
pub mod StoringSteps
pub mod GatheredMemories
mod UnderHeaders
mod ShownIsGathered
pub mod FollowedReceptions
pub mod RunsAreShown
mod AcceptedIsShown
mod FollowersOfCycles
mod GreatestGap
mod SomeGap
mod NeverFollowed
pub mod LateVerdicts
