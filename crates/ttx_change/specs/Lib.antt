pub mod OldOrNew
pub mod Scheduled
pub mod LateSplices
pub mod WholeChanges
pub mod LateSpliceLines
pub mod LateSpliceFiles
