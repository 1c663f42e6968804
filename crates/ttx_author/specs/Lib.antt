pub mod Options
pub mod Signs
pub mod Tags
pub mod Marks
pub mod Rows
pub mod Seen
pub mod Texts
pub mod Remedies
