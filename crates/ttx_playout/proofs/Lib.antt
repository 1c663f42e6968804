mod Changes
mod SentEditions
mod CarriedThrough
mod SeenWhileOn
pub mod SeenOnAir
mod HandedFurther
mod EditionValues
mod FollowedThrough
mod LateRunsGoOn
mod ShownWhileOn
mod SentSoFar
mod FollowedAcross
mod AcrossOneChange
mod HeadEndIsSeen
mod FollowedEditions
