mod Sequences
mod Plain
mod RowTable
mod RowValues
mod RowKeys
mod KeyPlaces
mod ShortNumbers
mod LinkArray
mod PageList
mod PageArray
mod PromiseArray
pub mod DocumentTexts
mod OftenChanges
