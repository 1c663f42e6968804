mod PlacedRows
mod MutedFeeds
mod ReceivedFeeds
mod HeardByRows
mod TornRows
mod LostPackets
mod HeardRows
mod SteppedRows
