-- Why transmissions of an item are not sure.
use Rattle.std.proofs.Common.{◌≡◌, ◌⊎◌, ℕ, zero, suc, ℤ, pos, ◌+ℤ◌, ◌-ℤ◌, ◌<ℤ◌, ◌≤ℤ◌, unsigned_abs, int_lt, Bool, true, false, not, List, [], ◌∷◌}
use Rattle.std.proofs.Common.{length, refl, subst, inl, inr, arith}
use Rattle.std.proofs.lemmas.Bool.{cases_Bool, and_from, and_parts, both_ways, not-true, not_from_false}
use Rattle.std.proofs.lemmas.Int.{ints}
use Rattle.std.specs.List.{AllByRecursion}
use Rattle.ttx_page.proofs.SlotDistances.{cases_ltz}
use Rattle.ttx_header.specs.Ids.{Id}
use Rattle.ttx_page.specs.Packets.{packet_of}
use Rattle.ttx_page.specs.Streams.{Stream, repeated, ends_serial, IsOwned, IsSure, CannotBeMissed}
use Rattle.ttx_page.specs.declared.item.Item.{Item}
use Rattle.ttx_page.specs.declared.item.Item.TheVariants.{Head as TheHead, Row as TheRow, Links as TheLinks}
use Rattle.ttx_witness.specs.runs.Transmissions.{Transmission}
use Rattle.ttx_witness.specs.runs.Repeating.{AreSent, Tells}
use Rattle.ttx_witness.specs.sent.ItemTransmissions.{sent_in}
use Rattle.ttx_witness.specs.wait_times.PageWaits.{is_near, is_cut}
use Rattle.ttx_witness.specs.laws.WaitLaws.{IsNear, IsCut, IsLossTold, LossesAreTold}
use Rattle.ttx_witness.proofs.lemmas.WholeNumbers.{is_lt, abs_is}
use Rattle.ttx_witness.proofs.lemmas.sent.CycleTransmissions.{sent_told}

-- one of the k numbers from low on passes, or none does
record Passes (P : ℤ → Bool) (low high : ℤ) : Type 0 where
  at : ℤ
  from : low ≤ℤ at
  to : at <ℤ high
  is : P at ≡ true

look : (P : ℤ → Bool) (low : ℤ) (k : ℕ) → Passes P low (low +ℤ pos k) ⊎ ((i : ℤ) → low ≤ℤ i → i <ℤ (low +ℤ pos k) → P i ≡ false)
look P low zero = inr (λ i a b. absurd (omega (arith, ints)))
look P low (suc k) = elim (look P low k) as
    (λ _. Passes P low (low +ℤ pos (suc k)) ⊎ ((i : ℤ) → low ≤ℤ i → i <ℤ (low +ℤ pos (suc k)) → P i ≡ false)) [
      | inl p ↦ inl (record { at = p.at; from = p.from; to = let t = p.to in omega (arith, ints); is = p.is })
      | inr none ↦ elim (cases_Bool (P (low +ℤ pos k))) as
          (λ _. Passes P low (low +ℤ pos (suc k)) ⊎ ((i : ℤ) → low ≤ℤ i → i <ℤ (low +ℤ pos (suc k)) → P i ≡ false)) [
            | inl yes_ ↦ inl (record { at = low +ℤ pos k; from = omega (arith, ints); to = omega (arith, ints); is = yes_ })
            | inr no_ ↦ inr (λ i a b. elim (cases_ltz i (low +ℤ pos k)) as (λ _. P i ≡ false) [
              | inl lt ↦ none i a lt
              | inr ge ↦ let same : low +ℤ pos k ≡ i = omega (arith, ints) in subst (λ x. P x ≡ false) same no_
            ])
          ]
    ]

lt_is : (a b : ℤ) → a <ℤ b → int_lt a b ≡ true
lt_is a b lt = elim (cases_Bool (int_lt a b)) as (λ _. int_lt a b ≡ true) [
  | inl e ↦ e
  | inr f ↦ absurd (omega (arith, ints))
]

module _ (s : Stream) (page : Id) (lines : ℕ) (item : Item) (not_head : item ≡ TheHead → ⊥) where
  sure_to : (h j : ℤ) (i : Item) → (i ≡ TheHead → ⊥) → IsSure s lines page.mag i h j → CannotBeMissed s lines page.mag h j
  sure_to h j TheHead other sure = absurd (other refl)
  sure_to h j (TheRow r) other sure = sure
  sure_to h j TheLinks other sure = sure

  sure_from : (h j : ℤ) (i : Item) → CannotBeMissed s lines page.mag h j → IsSure s lines page.mag i h j
  sure_from h j TheHead c = tt
  sure_from h j (TheRow r) c = c
  sure_from h j TheLinks c = c

  module _ (t : Transmission) (tells : Tells (IsOwned s page item) (IsSure s lines page.mag item) t) where
    cut_to : is_cut lines t ≡ true → IsCut s page.mag lines t
    cut_to e =
        let far = is_lt (t.owner +ℤ pos lines) t.slot ((and_parts _ _ e).0) in
        let unsure : t.sure ≡ false = not-true t.sure ((and_parts (int_lt (t.owner +ℤ pos lines) t.slot) (not t.sure) e).1) in
        let low = t.owner +ℤ pos 1 in
        let k = unsigned_abs (t.slot -ℤ (t.owner +ℤ pos 1)) in
        let size : pos (unsigned_abs (t.slot -ℤ (t.owner +ℤ pos 1))) ≡ t.slot -ℤ (t.owner +ℤ pos 1) =
        abs_is (t.slot -ℤ (t.owner +ℤ pos 1)) (omega (arith, ints)) in
        elim (look (λ i. ends_serial page.mag (packet_of (s i))) low k) as (λ _. IsCut s page.mag lines t) [
          | inl p ↦ record {
            far = far;
            header = p.at;
            after = let a = p.from in omega (arith, ints);
            before = let b = p.to
                in omega (arith, ints);
            ends = p.is;
          }
          | inr none ↦ absurd (both_ways t.sure unsure
              (tells.sure.1 (sure_from t.owner t.slot item (far, (λ i a b. none i (omega (arith, ints)) (omega (arith, ints)))))))
        ]

    cut_from : IsCut s page.mag lines t → is_cut lines t ≡ true
    cut_from c = and_from _ _ (lt_is (t.owner +ℤ pos lines) t.slot c.far) (not_from_false t.sure (elim (cases_Bool t.sure) as (λ _. t.sure ≡ false) [
      | inl sure ↦ absurd (both_ways (ends_serial page.mag (packet_of (s c.header)))
          ((sure_to t.owner t.slot item not_head (tells.sure.0 sure)).1 c.header c.after c.before) c.ends)
      | inr unsure ↦ unsure
    ]))

    near_to : is_near lines t ≡ true → IsNear lines t
    near_to e = elim (cases_ltz (t.owner +ℤ pos lines) t.slot) as (λ _. IsNear lines t) [
      | inl lt ↦ absurd (both_ways (int_lt (t.owner +ℤ pos lines) t.slot) (not-true (int_lt (t.owner +ℤ pos lines) t.slot) e)
          (lt_is (t.owner +ℤ pos lines) t.slot lt))
      | inr ge ↦ ge
    ]

    near_from : IsNear lines t → is_near lines t ≡ true
    near_from le = not_from_false (int_lt (t.owner +ℤ pos lines) t.slot)
        (elim (cases_Bool (int_lt (t.owner +ℤ pos lines) t.slot)) as (λ _. int_lt (t.owner +ℤ pos lines) t.slot ≡ false) [
          | inl e ↦ absurd (let lt = is_lt (t.owner +ℤ pos lines) t.slot e in omega (arith, ints))
          | inr f ↦ f
        ])

    one_told : IsLossTold s page.mag lines t
    one_told = record { near = (near_to, near_from); cut = (cut_to, cut_from) }

  all_told : (low high : ℤ) (ts : List Transmission) → AreSent (IsOwned s page item) (IsSure s lines page.mag item) low high ts →
      AllByRecursion (IsLossTold s page.mag lines) ts
  all_told low high [] l = tt
  all_told low high (t ∷ ts) l = (one_told t l.0, all_told (t.slot +ℤ pos 1) high ts l.4)

pub losses_are_told : LossesAreTold
losses_are_told cycle some page lines item other =
    all_told (repeated cycle) page lines item other (pos 0) (pos (length cycle)) (sent_in cycle page lines item)
    (sent_told cycle some page lines item)
