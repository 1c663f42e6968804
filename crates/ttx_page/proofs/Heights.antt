-- Hidden rows below rows in double height, going upwards.
use Rattle.std.proofs.Common.{◌≡◌, ◌∙◌, ℕ, suc, ◌-◌, ◌<◌, ◌≤◌, Bool, true, false, not, ◌&&◌, if◌then◌else◌, List, nat_le, refl, ap, subst, arith}
use Rattle.std.proofs.lemmas.Bool.Decides.{nat_tests}
use Rattle.ttx_page.specs.Pages.{has_double_height, is_hidden}

both : (b : Bool) → (b && true) ≡ b
both true = refl
both false = refl

-- the row below a row 1 to 22 in double height is hidden if and only if that row is not
below_tall : (row : ℕ → List ℕ) (above : ℕ) → 1 ≤ above → above ≤ 22 → has_double_height (row above) ≡ true
    → is_hidden row (suc above) ≡ not (is_hidden row above)
below_tall row above low high tall =
    let from : nat_le 1 above ≡ true = grind (arith, nat_tests) in
    let to : nat_le above 22 ≡ true = grind (arith, nat_tests) in
    rw (from, to, tall) (both (not (is_hidden row above)))

turned : (is turn here above : Bool) → is ≡ (if turn then not here else here) → here ≡ not above → is ≡ (if not turn then not above else above)
turned is true here true e h = e ∙ ap not h
turned is true here false e h = e ∙ ap not h
turned is false here above e h = e ∙ h

-- one row up
pub row_up : (row : ℕ → List ℕ) (number at : ℕ) (turn : Bool) → 1 < at → at ≤ 23 → has_double_height (row (at - 1)) ≡ true
    → is_hidden row number ≡ (if turn then not (is_hidden row at) else is_hidden row at)
    → is_hidden row number ≡ (if not turn then not (is_hidden row (at - 1)) else is_hidden row (at - 1))
row_up row number at turn low high tall e =
    let same : suc (at - 1) ≡ at = omega arith in
    let below : is_hidden row at ≡ not (is_hidden row (at - 1)) =
    subst (λ n. is_hidden row n ≡ not (is_hidden row (at - 1))) same (below_tall row (at - 1) (omega arith) (omega arith) tall) in
    turned (is_hidden row number) turn (is_hidden row at) (is_hidden row (at - 1)) e below
