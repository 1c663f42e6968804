mod Reversed
mod CountedPackets
mod KeptBytes
