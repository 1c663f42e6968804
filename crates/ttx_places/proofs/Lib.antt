mod Turns
mod Columns
mod LastLine
mod PartsOfPaths
mod Escapes
