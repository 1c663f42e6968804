mod FlagBits
mod Slices
mod PacketZero
mod Readings
