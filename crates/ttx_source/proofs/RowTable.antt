-- The rows of a page, one value at a time.
use Rattle.std.proofs.Common.{◌≡◌, ◌≢◌, ◌==◌, ◌<◌, ◌≤◌, ◌+◌, ◌++◌, ℕ, zero, suc, List, [], ◌∷◌, length, Ok, Err, Option, option_map}
use Rattle.std.proofs.Common.{Bor, ap, refl, append-nil, map, drop, take, set, get_or, slice_index, replicate, inl, inr, get_or-set_same}
use Rattle.std.proofs.Common.{get_or-set_other, arith}
use Rattle.std.proofs.lemmas.List.{drop_more, drop_all, get_or-replicate}
use Rattle.std.proofs.lemmas.Grind.{common_steps}
use Rattle.toml.specs.declared.value.Value.{Value}
use Rattle.toml.specs.View.{view}
use Rattle.toml.specs.Data.{Data}
use Rattle.std.proofs.lemmas.Bool.{cases_Bool}
use Rattle.std.proofs.lemmas.Bool.Decides.{nat_tests}
use Rattle.ttx_page.specs.Pages.{IsRow}
use Rattle.ttx_source.specs.Values.{Fault}
use Rattle.ttx_source.specs.Keys.{row_of, rows_of, AreRows}
use Rattle.ttx_source.proofs.Sequences.{then, then-more}

-- one more row, or the fault that ends them
pub rows_more : (done : List (List ℕ)) (value : Option Data) (values : List (Option Data)) (row : List ℕ) → row_of value ≡ Ok row
    → then done (rows_of (value ∷ values)) ≡ then (done ++ row ∷ []) (rows_of values)
unfolding rows_of
rows_more done value values row h = rw h (then-more done row (rows_of values))

pub rows_fault : (done : List (List ℕ)) (value : Option Data) (values : List (Option Data)) (e : Fault) → row_of value ≡ Err e
    → then done (rows_of (value ∷ values)) ≡ Err e
unfolding rows_of
rows_fault done value values e h = rw h

pub rows_end : (done : List (List ℕ)) → then done (rows_of []) ≡ Ok done
unfolding rows_of
rows_end done = ap Ok (append-nil done)

-- the values from here on, under their views
abbrev pub seen : Option (Bor Value) → Option Data
seen = option_map (λ v. view v.now)

pub values_drop : (values : List (Option (Bor Value))) (i : ℕ) (d : Option (Bor Value)) → i < length values
    → map seen (drop i values) ≡ seen (get_or values i d) ∷ map seen (drop (i + 1) values)
values_drop values i d h = rw (drop_more values i d h)

pub values_end : (values : List (Option (Bor Value))) (i : ℕ) → length values ≤ i → map seen (drop i values) ≡ []
values_end values i h = rw (drop_all i values h)

-- the rows up to the one that was written
pub front_set : (rows : List (List ℕ)) (i : ℕ) (row : List ℕ) → i < length rows → take (i + 1) (set rows i row) ≡ take i rows ++ row ∷ []
front_set rows i row h = grind (arith, common_steps)

-- rows of spaces
spaces_below : (n c : ℕ) → slice_index (replicate n 32) c < 128
spaces_below zero c = omega arith
spaces_below (suc n) zero = omega arith
spaces_below (suc n) (suc c) = spaces_below n c

abbrev blank : List ℕ
blank = replicate 40 32

pub blank_is_row : IsRow blank
blank_is_row = record { length = refl; codes = spaces_below 40 }

pub blank_are_rows : AreRows (replicate 24 blank)
blank_are_rows r within = rw (get_or-replicate 24 r blank [] within) blank_is_row

-- the rows up to the one that was written are rows
pub rows_set : (rows : List (List ℕ)) (i : ℕ) (row : List ℕ) → i < length rows → ((r : ℕ) → r < i → IsRow (get_or rows r [])) → IsRow row
    → (r : ℕ) → r < i + 1 → IsRow (get_or (set rows i row) r [])
rows_set rows i row here are is r within =
    elim (cases_Bool (r == i)) [
      | inl same ↦
          let e : r ≡ i = grind (arith, nat_tests) in
          rw (e, get_or-set_same rows i row [] here) is
      | inr other ↦
          let ne : r ≢ i = grind (arith, nat_tests) in
          let below : r < i = omega (arith, ne, within) in
          rw (get_or-set_other rows i r row [] ne) (are r below)
    ]
