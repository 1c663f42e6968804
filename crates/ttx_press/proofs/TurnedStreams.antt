-- A turned cycle is the cycle some slots later.
use Rattle.std.proofs.Common.{◌≡◌, ◌∙◌, ◌+◌, ◌-◌, ◌%◌, ◌<◌, ◌≤◌, ℕ, pos, ◌+ℤ◌, List, [], length, drop, take, get_or, sym, ap, arith, inl, inr}
use Rattle.std.proofs.Common.{length-append, length-drop, mod-eq_of_lt}
use Rattle.std.proofs.Math.Nat.{add-mod_right}
use Rattle.std.proofs.lemmas.Bool.{cases_lt}
use Rattle.std.proofs.lemmas.Int.{ints}
use Rattle.std.proofs.lemmas.List.{get_or-drop, get_or-take, get_or_append_left, get_or-append_right, take-append-drop}
use Rattle.ttx_page.specs.Laws.{EachSlotTurns}
use Rattle.ttx_page.specs.Streams.{turned as place}
use Rattle.ttx_press.specs.Turns.{turned, TurnsSendTheSame}

turned_length : (at : ℕ) (cycle : List (List ℕ)) → length (turned at cycle) ≡ length cycle
turned_length at cycle =
    let both = ap length (take-append-drop at cycle) in
    omega (arith, length-append (drop at cycle) (take at cycle), length-append (take at cycle) (drop at cycle), both)

-- the slot at place k
turned_at : (at k : ℕ) (cycle : List (List ℕ)) → at ≤ length cycle → k < length cycle →
    get_or (turned at cycle) k [] ≡ get_or cycle ((k + at) % length cycle) []
turned_at at k cycle inside lt =
    let n = length cycle in
    let rest = length-drop at cycle in
    elim (cases_lt k (n - at)) as (λ _. get_or (turned at cycle) k [] ≡ get_or cycle ((k + at) % n) []) [
      | inl before ↦
          let here : k < length (drop at cycle) = omega arith in
          let small : k + at < n = omega arith in
          let there : at + k ≡ (k + at) % n = omega (arith, mod-eq_of_lt small) in
          get_or_append_left (drop at cycle) (take at cycle) [] k here ∙ get_or-drop at cycle k [] ∙ ap (λ i. get_or cycle i []) there
      | inr from ↦
          let some : n - at ≤ k = omega arith in
          let short : k - (n - at) < at = omega arith in
          let small : k - (n - at) < n = omega arith in
          let sum : (k - (n - at)) + n ≡ k + at = omega arith in
          let there : k - (n - at) ≡ (k + at) % n = sym (mod-eq_of_lt small) ∙ sym (add-mod_right (k - (n - at)) n) ∙ ap (λ i. i % n) sum in
          get_or-append_right (drop at cycle) (take at cycle) (n - at) k [] rest some ∙ get_or-take at cycle (k - (n - at)) [] short
          ∙ ap (λ i. get_or cycle i []) there
    ]

pub turns_send_the_same : EachSlotTurns → TurnsSendTheSame
turns_send_the_same turns cycle at i some inside =
    let n = length cycle in
    let t = turns n i some in
    let k = place n i in
    let e : i +ℤ pos at ≡ pos (k + at) +ℤ t.by = let p = t.place in omega (arith, ints, p) in
    let moved : (k + at) % n ≡ place n (i +ℤ pos at) = sym (ap (place n) e ∙ t.same (pos (k + at))) in
    ap (λ m. get_or (turned at cycle) (place m i) []) (turned_length at cycle) ∙ turned_at at k cycle inside t.inside
    ∙ ap (λ j. get_or cycle j []) moved
