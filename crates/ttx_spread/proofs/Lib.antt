mod RoundsNest
mod LightBlocks
mod SpreadNumbers
