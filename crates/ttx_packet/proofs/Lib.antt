pub mod Unions
mod Choices
mod Cases
mod Receptions
mod Addresses
mod Numbered
mod Free
