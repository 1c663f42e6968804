-- The field and the moment of an entry of the log: `tick_of`.
use Rattle.ttx_air.specs.LogLines.{Tick, tick_at}
use Rattle.ttx_air.specs.declared.lines.Entry.{Entry}

abbrev pub tick_of : Entry → Tick
tick_of entry = tick_at entry.field entry.moment
