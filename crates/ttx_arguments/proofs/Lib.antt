mod CommandLine
mod Numerals
mod Building
mod Written
