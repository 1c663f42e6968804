-- The fault of a command whose feed fails.
use Rattle.ttx_files.specs.declared.faults.FeedFault.{FeedFault}
use Rattle.ttx_files.specs.declared.faults.FeedFault.TheVariants as feed
use Rattle.ttx_files.specs.declared.faults.FilesFault.TheVariants.{NoMemory}
use Rattle.ttx_faults.specs.declared.faults.ToolFault.{ToolFault}
use Rattle.ttx_faults.specs.declared.faults.ToolFault.TheVariants.{Files, Feed}

abbrev pub of_feed : FeedFault → ToolFault
of_feed feed.Read = Feed
of_feed feed.NoMemory = Files NoMemory
