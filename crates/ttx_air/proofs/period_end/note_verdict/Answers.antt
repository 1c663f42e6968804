use Rattle.std.proofs.Common.{inl, inr, ◌∙◌}
use Rattle.ttx_air.specs.LogLines.{kept_line}
use Rattle.ttx_air.specs.Ticks.{tick_of}
use Rattle.ttx_air.proofs.AddedLines.{adds_same}
use Rattle.ttx_air.proofs.period_end.note_verdict.Goals as goal

pub returns-in-Ok : goal.returns-in-Ok
returns-in-Ok g c =
    let mark = c.as_bytes.ensures.value in
    let line = c.as_bytes-in-Ok.ensures.value ∙ c.in-Ok.ensures in
    inl (adds_same (λ i. kept_line (tick_of c.args.entry.now) (mark i) (line i)) c.note_kept.ensures)

pub returns-in-Err : goal.returns-in-Err
returns-in-Err g c = inr c.note_unjudged.ensures
