pub mod PageFacts
pub mod PackedTracks
pub mod ItemProgress
pub mod EarlierOwners
pub mod Passing
