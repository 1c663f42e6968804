-- If two streams are the same up to the end of a reception, a reception of one within the error rule is one of the other.
use Rattle.std.proofs.Common.{◌≡◌, ℕ, ℤ, pos, ◌+ℤ◌, ◌-ℤ◌, ◌<ℤ◌, ◌≤ℤ◌, List, [], ◌∷◌, length, get_or, refl, ap, ◌∙◌, subst, inl, inr, arith}
use Rattle.std.proofs.lemmas.Int.{ints}
use Rattle.std.specs.Prelude.{slice_index}
use Rattle.std.specs.List.{AllByRecursion}
use Rattle.ttx_packet.specs.Receptions.{MayBeReceivedAs}
use Rattle.ttx_header.specs.Ids.{Id}
use Rattle.ttx_page.specs.declared.item.Item.{Item}
use Rattle.ttx_page.specs.Streams.{Stream, IsOwned, IsTransmission, AreSuccessive}
use Rattle.ttx_page.specs.Receptions.{Received, IsRight, OneIs}
use Rattle.ttx_proof.specs.Carried.{AgreeingStreamsAreReceived}
use Rattle.ttx_proof.proofs.AgreeingStreams.{moved, owned_on, owned_off, successive_on}

not_moved : (xs : List ℤ) → moved (pos 0) xs ≡ xs
not_moved [] = refl
not_moved (x ∷ xs) =
    let e : x +ℤ pos 0 ≡ x = omega (arith, ints) in ap (λ y. y ∷ moved (pos 0) xs) e ∙ ap (λ ys. x ∷ ys) (not_moved xs)

module _ (s t : Stream) (end : ℤ) (same : (i : ℤ) → i <ℤ end → s i ≡ t i) (page : Id) where
  same_on : (i : ℤ) → i <ℤ end → s (i +ℤ pos 0) ≡ t i
  same_on i lt = let e : i +ℤ pos 0 ≡ i = omega (arith, ints) in ap s e ∙ same i lt

  on : (item : Item) (j : ℤ) → j <ℤ end → IsTransmission t page item j → IsTransmission s page item (j +ℤ pos 0)
  on item j lt q = record {
    owner = q.owner +ℤ pos 0;
    owned = owned_on t s (pos 0) q.owner j (λ i a b. same_on i (omega (arith, ints))) page item q.owned;
  }

  off : (item : Item) (j : ℤ) → j <ℤ end → IsTransmission s page item (j +ℤ pos 0) → IsTransmission t page item j
  off item j lt q =
      let e : q.owner ≡ (q.owner -ℤ pos 0) +ℤ pos 0 = omega (arith, ints) in
      record {
        owner = q.owner -ℤ pos 0;
        owned = owned_off t s (pos 0) (q.owner -ℤ pos 0) j (λ i a b. same_on i (omega (arith, ints))) page item
            (subst (λ z. IsOwned s page item z (j +ℤ pos 0)) e q.owned);
      }

  successive : (item : Item) (xs : List ℤ) → AllByRecursion (λ j. j <ℤ end) xs → AreSuccessive t page item xs → AreSuccessive s page item xs
  successive item xs all a = subst (AreSuccessive s page item) (not_moved xs)
      (successive_on t s (pos 0) page item (λ j. j <ℤ end) (λ x y z p q low high. omega (arith, ints)) (on item) (off item) xs all a)

  module _ (tau : ℤ) (received : List (List ℕ)) (within : (tau +ℤ pos (length received)) ≤ℤ end) where
    right : (x : ℕ) (slots : List ℤ) → AllByRecursion (λ j. j <ℤ end) slots → OneIs (IsRight s tau received x) slots →
        OneIs (IsRight t tau received x) slots
    right x [] all one = one
    right x (j ∷ slots) all one = elim one as (λ _. OneIs (IsRight t tau received x) (j ∷ slots)) [
      | inl r ↦ inl (record { index = r.index; place = r.place; right = r.right ∙ ap (λ y. slice_index y x) (same j all.0) })
      | inr more ↦ inr (right x slots all.1 more)
    ]

    inside : (slots : List ℤ) → AllByRecursion (λ j. (tau ≤ℤ j) × (j <ℤ (tau +ℤ pos (length received)))) slots →
        AllByRecursion (λ j. j <ℤ end) slots
    inside [] all = tt
    inside (j ∷ slots) all = ((let lt = all.0.1 in omega (arith, ints)), inside slots all.1)

    received_alike : (repeat : ℕ) → Received s page repeat tau received → Received t page repeat tau received
    received_alike repeat a = record {
      each = λ n lt. subst (λ z. MayBeReceivedAs z (get_or received n [])) (same (tau +ℤ pos n) (omega (arith, ints))) (a.each n lt);
      one_right = λ item x text slots count follow all.
          right x slots (inside slots all) (a.one_right item x text slots count (successive item slots (inside slots all) follow) all);
    }

pub agreeing_streams_are_received : AgreeingStreamsAreReceived
agreeing_streams_are_received s t end same page tau received within = received_alike s t end same page tau received within
