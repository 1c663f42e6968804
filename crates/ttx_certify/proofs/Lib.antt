mod walk_lemmas
pub mod LaterReceptions
pub mod AcceptedIsSeen
mod OneItem
pub mod ItemByItem
mod Accepting
mod WalkVerdicts
mod OneFile
mod TwoFiles
pub mod PageByPage
pub mod AuthoredIds
mod CertifiedIsShown
mod OneVerdict
pub mod Decisions
mod SomeFault
mod SomeVerdict
mod TrueReasons
mod ToldPages
