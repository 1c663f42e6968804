pub mod KnownFiles
mod RefusedInputs
mod JudgedInputs
pub mod ToldFiles
pub mod Failures
