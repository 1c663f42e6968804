pub mod PageWaits
pub mod ItemLimits
pub mod ItemWaits
pub mod SurveyedWaits
