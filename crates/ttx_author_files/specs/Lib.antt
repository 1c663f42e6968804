pub mod Translating
pub mod Composing
pub mod AuthorTexts
pub mod Decomposing
pub mod AuthorNotes
pub mod Checking
pub mod AuthorReports
