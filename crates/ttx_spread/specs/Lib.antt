pub mod SpreadNumbers
