pub mod Choices
mod Numbers
mod Parities
mod Loads
