use Rattle.std.proofs.Common.{◌∙◌, subst}
use Rattle.ttx_air.specs.Judgements.{IsServed}
use Rattle.ttx_air.specs.LogLines.{tick_at, first_line}
use Rattle.ttx_air.proofs.AddedLines.{adds_same, adds_since}
use Rattle.ttx_air.proofs.first_edition.opened.Goals as goal

pub returns : goal.returns
returns g c =
    let first = c.in-Ok.ensures.exact.0 in
    let mark = c.as_bytes.ensures.value in
    let t = tick_at 0 c.args.begin in
    let edition = c.current-2.ensures ∙ first in record {
      on_air = c.in-Ok.ensures.on_air;
      start = c.in-Ok.ensures.exact;
      served = subst (IsServed c.args.receivers) (c.current.ensures ∙ first) c.in_default.ensures;
      line = adds_since c.faults.ensures (adds_same (λ i. first_line t (mark i) (edition i)) c.note_first.ensures);
    }
