pub mod WholeNumbers
pub mod GrownLists
pub mod runs
pub mod sent
pub mod faults
pub mod search
pub mod wait_times
pub mod laws
