use Rattle.std.proofs.Common.{ap, ◌∙◌}
use Rattle.std.specs.Fmt.{decimal}
use Rattle.ttx_air.specs.LogLines.{pages_text, lacking}
use Rattle.ttx_air.proofs.AddedLines.{adds_both, adds_same}
use Rattle.ttx_air.proofs.lines.put_change.Goals as goal

pub returns : goal.returns
returns g c =
    let old = c.pages.ensures.value in
    let new = c.pages-2.ensures.value in
    let more = adds_same (ap pages_text (c.lacking-new_pages.ensures ∙ (λ i. lacking (old i) (new i)))) c.put_pages.ensures in
    let again = c.pages-3.ensures.value in
    let before = c.pages-4.ensures.value in
    let gone = adds_same (ap decimal (c.lacking-gone.ensures ∙ (λ i. lacking (again i) (before i)))) c.put_number.ensures in
    let deadline = adds_same (ap decimal c.deadline.ensures) c.put_number-2.ensures in
    adds_both (adds_both (adds_both (adds_both (adds_both more c.put.ensures) gone) c.put-2.ensures) deadline) c.put-3.ensures
