mod PossibleEndings
mod BroadcastSteps
mod DueRecords
mod ReplaySteps
mod ReplayedEndings
mod ReplayedSlots
