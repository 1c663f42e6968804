use Rattle.std.proofs.Common.{◌≡◌, ◌<◌, ◌+◌, ◌∙◌, ◌∷◌, List, ℕ, true, false, drop, length, get_or, refl, sym, ap}
use Rattle.std.proofs.lemmas.List.{at_drop_more}
use Rattle.ttx_check.specs.RowSigns.{is_escape, has_escape}
use Rattle.ttx_check.proofs.row_signs.has_escape.Goals as goal

skip : (c : ℕ) (row : List ℕ) → is_escape (c ∷ row) ≡ false → has_escape (c ∷ row) ≡ has_escape row
skip c row h = rw h refl

found : (c : ℕ) (row : List ℕ) → is_escape (c ∷ row) ≡ true → has_escape (c ∷ row) ≡ true
found c row h = rw h refl

pub returns-then-is_escape : goal.returns-then-is_escape
returns-then-is_escape c =
    let row = c.args.row.now in
    let i = c.loop-column.column in
    let within : i < length row = c.loop-column-test.true in
    let some : is_escape (drop i row) ≡ true = sym (ap is_escape c.rest_from.ensures) ∙ sym c.if-is_escape.ensures in
    sym (sym c.loop-column.invariant ∙ at_drop_more has_escape row i 0 within
    ∙ found (get_or row i 0) (drop (i + 1) row) (sym (at_drop_more is_escape row i 0 within) ∙ some))

pub loop-column-preserved : goal.loop-column-preserved
loop-column-preserved c =
    let row = c.args.row.now in
    let i = c.loop-column.column in
    let within : i < length row = c.loop-column-test.true in
    let none : is_escape (drop i row) ≡ false =
    sym (ap is_escape c.rest_from.ensures) ∙ sym c.if-is_escape.ensures in
    sym (skip (get_or row i 0) (drop (i + 1) row) (sym (at_drop_more is_escape row i 0 within) ∙ none))
    ∙ sym (at_drop_more has_escape row i 0 within) ∙ c.loop-column.invariant
