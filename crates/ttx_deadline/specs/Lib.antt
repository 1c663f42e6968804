pub mod Deadlines
pub mod Requirements
pub mod RequiredLines
pub mod RequiredFiles
pub mod LateRequirements
pub mod FoundLaws
