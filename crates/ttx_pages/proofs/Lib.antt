mod Rising
mod Listed
mod ListedRecords
