pub mod RunLaws
pub mod CycleLaws
pub mod JudgingLaws
pub mod LateLaws
pub mod WaitLaws
pub mod SureItems
