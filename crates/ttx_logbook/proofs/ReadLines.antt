-- Each kind of line is read as it is written.
use Rattle.ttx_logbook.specs.LogTexts.{settings_text, start_text, entry_text, IsSettings, IsStart, IsEntry}
use Rattle.ttx_logbook.specs.EntryReading.{start_in, entry_in}
use Rattle.ttx_logbook.specs.SettingsReading.{settings_in}
use Rattle.ttx_logbook.proofs.LineLaws.{Reads}
use Rattle.ttx_logbook.proofs.EntryLaws.{start_read, start_is, entry_read, entry_is}
use Rattle.ttx_logbook.proofs.SettingsLaws.{settings_read, settings_is}

pub settings_reads : Reads settings_in settings_text IsSettings
settings_reads = record { lacks = λ s is. is.line; reads = settings_read; writes = settings_is }

pub start_reads : Reads start_in start_text IsStart
start_reads = record { lacks = λ s is. is.line; reads = start_read; writes = start_is }

pub entry_reads : Reads entry_in entry_text IsEntry
entry_reads = record { lacks = λ e is. is.line; reads = entry_read; writes = entry_is }
