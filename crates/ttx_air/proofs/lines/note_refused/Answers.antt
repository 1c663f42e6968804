use Rattle.std.proofs.Common.{codes, ◌++◌}
use Rattle.ttx_air.specs.LogLines.{field_text}
use Rattle.ttx_air.specs.Ticks.{tick_of}
use Rattle.ttx_air.proofs.AddedLines.{adds_both, adds_end}
use Rattle.ttx_air.proofs.lines.note_refused.Goals as goal

pub returns : goal.returns
returns g c = adds_end (field_text (tick_of c.args.entry.now)) (codes " kept" ++ c.args.mark.now ++ codes ": ") c.args.words.now (codes "\n")
    (adds_both c.note_kept.ensures c.put.ensures)
