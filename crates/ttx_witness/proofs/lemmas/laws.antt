pub mod CycleLaws
pub mod JudgingLaws
pub mod SureItems
pub mod CutOff
pub mod Unserved
pub mod HeaderGaps
