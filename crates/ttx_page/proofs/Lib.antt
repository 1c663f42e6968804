mod Unions
mod JoinedRows
mod Heights
mod PageRules
mod KeptRanges
mod PageLists
pub mod Decisions
pub mod SlotDistances
mod BlankMemories
mod Choices
mod ExactReception
mod RunsOneSlotOn
mod MovedStreams
mod OwnContents
pub mod Owners
mod Runs
mod Turns
mod Examples
mod WrongText
mod OutsideErrorRule
mod Targets
mod Fitting
