mod Listed
mod Counted
mod PlainRows
