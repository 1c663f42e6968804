pub mod Texts
pub mod Lines
pub mod ViewLines
pub mod UnlikeViews
