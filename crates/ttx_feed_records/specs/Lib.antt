pub mod FeedRecords
pub mod RowRecords
pub mod ReportRecords
