pub mod Records
pub mod ServiceRecords
pub mod AuthorRecords
pub mod Checking
