-- The first slots of a reception.
use Rattle.std.proofs.Common.{ℕ, ◌<◌, ◌≤◌, ℤ, pos, ◌+ℤ◌, ◌<ℤ◌, ◌≤ℤ◌, List, [], ◌∷◌, length, take, sym, ap, ◌∙◌, subst, inl, inr, arith}
use Rattle.std.proofs.Common.{get_or-take}
use Rattle.std.proofs.lemmas.Int.{ints}
use Rattle.std.proofs.lemmas.List.{length-take-le}
use Rattle.std.specs.Prelude.{slice_index}
use Rattle.std.specs.List.{AllByRecursion}
use Rattle.ttx_packet.specs.Receptions.{MayBeReceivedAs}
use Rattle.ttx_header.specs.Ids.{Id}
use Rattle.ttx_page.specs.Streams.{Stream}
use Rattle.ttx_page.specs.Receptions.{Received, IsRight, OneIs}

-- the first n slots of a reception are received within the error rule too
module _ (s : Stream) (page : Id) (repeat : ℕ) (tau : ℤ) (n : ℕ) (received : List (List ℕ)) (le : n ≤ length received) where
  abbrev AreBelow : ℕ → List ℤ → Type 0
  AreBelow count slots = AllByRecursion (λ j. (tau ≤ℤ j) × (j <ℤ (tau +ℤ pos count))) slots

  wider : (slots : List ℤ) → AreBelow (length (take n received)) slots → AreBelow (length received) slots
  wider [] b = tt
  wider (j ∷ slots) b = let k = b.0.1 in let l = length-take-le n received le in ((b.0.0, omega (arith, ints)), wider slots b.1)

  one_before : (x : ℕ) (slots : List ℤ) → AreBelow (length (take n received)) slots →
      OneIs (IsRight s tau received x) slots → OneIs (IsRight s tau (take n received) x) slots
  one_before x [] a b = b
  one_before x (j ∷ slots) a b = elim b as (λ _. OneIs (IsRight s tau (take n received) x) (j ∷ slots)) [
    | inl r ↦
        let k = a.0.1 in
        let place = r.place in
        let inside : r.index < n = omega (arith, ints, length-take-le n received le) in
        inl (record { index = r.index; place = place; right = ap (λ y. slice_index y x) (get_or-take n received r.index [] inside) ∙ r.right })
    | inr r ↦ inr (one_before x slots a.1 r)
  ]

  pub received_before : Received s page repeat tau received → Received s page repeat tau (take n received)
  received_before a =
      let long = length-take-le n received le in
      record {
        each = λ i lt. subst (MayBeReceivedAs (s (tau +ℤ pos i))) (sym (get_or-take n received i [] (omega arith))) (a.each i (omega arith));
        one_right = λ item x text slots count successive all.
            one_before x slots all (a.one_right item x text slots count successive (wider slots all));
      }
