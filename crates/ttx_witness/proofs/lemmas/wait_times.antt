pub mod ItemLimits
pub mod PageDeadline
pub mod ItemByItem
pub mod GreatestItem
pub mod GreatestPage
pub mod SurveyedWaits
