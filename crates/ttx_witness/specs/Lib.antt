pub mod Coverage
pub mod Elements
pub mod runs
pub mod sent
pub mod faults
pub mod search
pub mod wait_times
pub mod laws
