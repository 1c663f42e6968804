-- Rows end to end: all codes are below 128 exactly if those of each row are.
use Rattle.std.proofs.Common.{◌≤◌, ◌<◌, ◌+◌, ◌-◌, ◌++◌, ℕ, zero, suc, List, [], ◌∷◌, length, get_or, nat_lt, subst, inl, inr, arith, ltb-true}
use Rattle.std.specs.List.{flat_map}
use Rattle.std.proofs.Math.ListN.{get_or-append}
use Rattle.std.proofs.Math.Seq.{get_or-append_right}
use Rattle.std.proofs.lemmas.Bool.{cases_Bool}
use Rattle.std.proofs.lemmas.Bool.Decides.{nat_tests}
use Rattle.std.proofs.lemmas.List.{get_or-append-add, get_or_past}
use Rattle.ttx_page.specs.Pages.{IsRow}

abbrev joined : List (List ℕ) → List ℕ
joined rows = flat_map (λ row. row) rows

pub codes_of_joined : (rows : List (List ℕ)) → ((r : ℕ) → r < length rows → IsRow (get_or rows r [])) → (c : ℕ) → get_or (joined rows) c 0 < 128
codes_of_joined [] are c = omega arith
codes_of_joined (row ∷ rows) are c =
    elim (cases_Bool (nat_lt c (length row))) [
      | inl e ↦ rw (get_or-append row (joined rows) 0 c (ltb-true _ _ e)) ((are 0 (omega arith)).codes c)
      | inr e ↦
          let past : length row ≤ c = grind (arith, nat_tests) in
          rw (get_or-append_right row (joined rows) c 0 past)
          (codes_of_joined rows (λ r within. are (suc r) (omega (arith, within))) (c - length row))
    ]

pub codes_in_joined : (rows : List (List ℕ)) → ((c : ℕ) → get_or (joined rows) c 0 < 128)
    → (r : ℕ) → r < length rows → (c : ℕ) → get_or (get_or rows r []) c 0 < 128
codes_in_joined [] all r within c = absurd (omega (arith, within))
codes_in_joined (row ∷ rows) all zero within c =
    elim (cases_Bool (nat_lt c (length row))) [
      | inl e ↦ subst (λ n. n < 128) (get_or-append row (joined rows) 0 c (ltb-true _ _ e)) (all c)
      | inr e ↦
          let past : length row ≤ c = grind (arith, nat_tests) in
          rw (get_or_past row c 0 past) (omega arith)
    ]
codes_in_joined (row ∷ rows) all (suc r) within c =
    codes_in_joined rows (λ k. subst (λ n. n < 128) (get_or-append-add row (joined rows) k 0) (all (length row + k))) r (omega (arith, within)) c
