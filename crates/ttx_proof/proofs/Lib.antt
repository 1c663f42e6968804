mod RightWhereNotRefuted
pub mod StreamsOfSides
pub mod CutRuns
pub mod BridgedIsSeen
mod RunsInWindows
mod NeighbouringRuns
pub mod NamedStarts
mod RunsNearBothEnds
mod CountingRuns
mod JoinedPeriods
mod ShiftedTransmissions
mod WalkDecides
mod VerdictMeanings
mod HangingOver
pub mod LatestHeaderBefore
mod FirstHangingOver
mod SeamAnswers
mod PlacesOfPages
mod BridgedItems
mod VerdictOfFindings
pub mod SixFiles
mod OneVerdict
mod SomeVerdict
pub mod AgreeingStreams
mod CarriedPages
mod ReceivedAlike
pub mod CarriedIsSeen
mod LastBlocks
