mod LaterDeadlines
mod FoundLaws
mod ShownInTime
