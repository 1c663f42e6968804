-- Runs of one item: there is one from each slot, and they end in the order in which they start.
use Rattle.std.proofs.Common.{◌≡◌, ℤ, pos, ◌+ℤ◌, ◌<ℤ◌, List, [], ◌∷◌, length, refl, sym, subst, inl, inr, arith}
use Rattle.std.specs.List.{AllByRecursion}
use Rattle.std.proofs.lemmas.Int.{ints}
use Rattle.ttx_header.specs.Ids.{Id}
use Rattle.ttx_page.specs.Pages.{Item}
use Rattle.ttx_page.specs.Streams.{Stream, IsTransmission, AreSuccessive}
use Rattle.ttx_page.specs.Laws.{RunsAreUnique, RunsRise}
use Rattle.ttx_page.proofs.SlotDistances.{cases_ltz}

module _ (s : Stream) (page : Id) (item : Item) where
  begins : (z : ℤ) (c : List ℤ) → AreSuccessive s page item (z ∷ c) → IsTransmission s page item z
  begins z [] t = t
  begins z (w ∷ c) t = t.0

  one_list : (first : ℤ) (a b : List ℤ) → length a ≡ length b → AreSuccessive s page item (first ∷ a) → AreSuccessive s page item (first ∷ b) → a ≡ b
  one_list first [] [] e h k = refl
  one_list first [] (y ∷ b) e h k = absurd (omega arith)
  one_list first (x ∷ a) [] e h k = absurd (omega arith)
  one_list first (x ∷ a) (y ∷ b) e h k =
      let q : x ≡ y = same_next in
      let rest : a ≡ b = one_list x a b (omega arith) h.3 (subst (λ z. AreSuccessive s page item (z ∷ b)) (sym q) k.3) in
      cc
    where
      same_next : x ≡ y
      same_next = elim (cases_ltz x y) as (λ _. x ≡ y) [
        | inl lt ↦ absurd (k.2 x h.1 lt (begins x a h.3))
        | inr ge ↦ elim (cases_ltz y x) as (λ _. x ≡ y)
            [ inl lt ↦ absurd (h.2 y k.1 lt (begins y b k.3)) | inr le ↦ omega (arith, ints) ]
      ]

  -- a run that starts earlier ends earlier
  all_earlier : (i j : ℤ) (a b : List ℤ) → length a ≡ length b → i <ℤ j → AreSuccessive s page item (i ∷ a) →
      AreSuccessive s page item (j ∷ b) → (end : ℤ) →
      AllByRecursion (λ x. x <ℤ (end +ℤ pos 1)) (j ∷ b) → AllByRecursion (λ x. x <ℤ end) (i ∷ a)
  all_earlier i j [] [] e lt h k end below = ((let w = below.0 in omega (arith, ints)), tt)
  all_earlier i j [] (y ∷ b) e lt h k end below = absurd (omega arith)
  all_earlier i j (x ∷ a) [] e lt h k end below = absurd (omega arith)
  all_earlier i j (x ∷ a) (y ∷ b) e lt h k end below =
      ((let w = below.0 in omega (arith, ints)), all_earlier x y a b (omega arith) x_first h.3 k.3 end below.1)
    where
      -- no transmission is between i and x, so x is not after j
      x_first : x <ℤ y
      x_first = elim (cases_ltz j x) as (λ _. x <ℤ y) [
        | inl after ↦ absurd (h.2 j lt after (begins j (y ∷ b) k))
        | inr ge ↦ let w = k.1 in omega (arith, ints)
      ]

pub runs_are_unique : RunsAreUnique
runs_are_unique s page repeat item first a b r q =
    one_list s page item first a b (let e = r.count in let f = q.count in omega arith) r.successive q.successive

pub runs_rise : RunsRise
runs_rise s page repeat item i j a b lt r q end below =
    all_earlier s page item i j a b (let e = r.count in let f = q.count in omega arith) lt r.successive q.successive end below
