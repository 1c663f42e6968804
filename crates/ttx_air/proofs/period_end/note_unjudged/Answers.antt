use Rattle.std.proofs.Common.{ap, codes}
use Rattle.ttx_air.specs.LogLines.{kept_line}
use Rattle.ttx_air.specs.Ticks.{tick_of}
use Rattle.ttx_air.proofs.AddedLines.{adds_same}
use Rattle.ttx_air.proofs.period_end.note_unjudged.Goals as goal

pub returns : goal.returns
returns g c = adds_same (ap (λ mark. kept_line (tick_of c.args.entry.now) mark (codes "out of memory\n")) c.as_bytes.ensures.value) c.note_kept.ensures
