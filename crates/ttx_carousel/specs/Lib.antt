pub mod Carousels
pub mod Judging
pub mod Layout
pub mod Orders
pub mod Waiting
pub mod Rounds
pub mod Planning
pub mod StayLines
