-- What `air --replay` says of a text that is no log: `log_status`.
use Rattle.std.specs.Prelude.{ℕ}
use Rattle.ttx_logbook.specs.declared.log.LogFault.{LogFault}
use Rattle.ttx_logbook.specs.declared.log.LogFault.TheVariants.{Line, NoMemory}

-- the status after it
abbrev pub log_status : LogFault → ℕ
log_status (Line line) = 2
log_status NoMemory = 3
