mod Chunks
mod PutParts
mod JudgedOnce
mod GivenSlots
