mod Found
mod Recalled
