pub mod Placing
pub mod Hearing
pub mod Books
