use Rattle.std.proofs.Common.{ap}
use Rattle.ttx_logbook.specs.Views.{event_of}
use Rattle.ttx_archive.proofs.recalled_log.recorded.Goals as goal

pub returns-in-None : goal.returns-in-None
returns-in-None c = ((c.in-Changed.words.now, ap event_of c.in-Changed.is), c.in-None.ensures)
