mod JoinedNumbers
mod ScheduledNumbers
mod LateVerdicts
