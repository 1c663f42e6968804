-- What one slot does to the owners of the magazines, and to the lists of transmissions.
use Rattle.std.proofs.Common.{◌≡◌, ℕ, ◌-◌, ◌<◌, ◌≤◌, ℤ, Bool, true, false, not, ◌&&◌, ◌||◌, ◌==◌, if◌then◌else◌, List, get_or, slice_get, Option}
use Rattle.std.proofs.Common.{Some, None, refl, sym, ap, ◌∙◌, subst, inl, inr, arith, eqb-true, eq-eqb}
use Rattle.std.proofs.lemmas.Bool.{cases_Bool, and_parts, cond_both, both_ways}
use Rattle.ttx_packet.specs.Slots.{Kind, IsEmpty, IsUnreadable, IsHeader, IsRow, IsLinks, IsInfo, IsOther, kind_of}
use Rattle.ttx_header.specs.Control.{c11}
use Rattle.ttx_header.specs.Headers.{id_of, control_of}
use Rattle.ttx_header.specs.Ids.{Id, IsId, same_id}
use Rattle.ttx_page.specs.Packets.{packet_of, packet_of_kind}
use Rattle.ttx_witness.specs.sent.ItemTransmissions.{PageOwner, tainted_by, owner_after}
use Rattle.ttx_witness.specs.sent.Collected.{taint, seen_by, Finds, owner_for, IsForeign, AreApart}
pub use Rattle.ttx_witness.specs.sent.IndexedHeaders.{IsNoHeader}
use Rattle.ttx_witness.specs.declared.sent.owners.Owner.{Owner}

pub packet_is : (slot : List ℕ) (k : Kind) → kind_of slot ≡ k → packet_of slot ≡ packet_of_kind slot k
unfolding packet_of
packet_is slot k e = ap (packet_of_kind slot) e

or_none : (b : Bool) → (b || false) ≡ b
or_none true = refl
or_none false = refl

tainted_none : (o : Option PageOwner) → tainted_by false o ≡ o
tainted_none None = refl
tainted_none (Some o) = ap (λ t. Some (record { slot = o.slot; mine = o.mine; tainted = t })) (or_none o.tainted)

-- a slot that is not a header leaves the owner unchanged
other_kind : (slot : List ℕ) (id : Id) (j : ℤ) (o : Option PageOwner) (k : Kind) → IsNoHeader k → o ≡ owner_after id j (packet_of_kind slot k) o
other_kind slot id j o IsEmpty n = sym (tainted_none o)
other_kind slot id j o IsUnreadable n = sym (tainted_none o)
other_kind slot id j o (IsHeader mag) n = absurd n
other_kind slot id j o (IsRow mag number) n = sym (tainted_none o)
other_kind slot id j o (IsLinks mag) n = sym (tainted_none o)
other_kind slot id j o IsInfo n = sym (tainted_none o)
other_kind slot id j o (IsOther mag number) n = sym (tainted_none o)

pub owner_stays : (slot : List ℕ) (k : Kind) → kind_of slot ≡ k → IsNoHeader k → (id : Id) (j : ℤ) (o : Option PageOwner) → o
    ≡ owner_after id j (packet_of slot) o
owner_stays slot k e n id j o = other_kind slot id j o k n ∙ ap (λ p. owner_after id j p o) (sym (packet_is slot k e))

-- a slot that is not readable as a header is not a header
pub no_header : (slot : List ℕ) → ((mag : ℕ) → kind_of slot ≡ IsHeader mag → ⊥) → IsNoHeader (kind_of slot)
no_header slot none = go (kind_of slot) none
  where
    go : (k : Kind) → ((mag : ℕ) → k ≡ IsHeader mag → ⊥) → IsNoHeader k
    go IsEmpty n = tt
    go IsUnreadable n = tt
    go (IsHeader mag) n = n mag refl
    go (IsRow mag number) n = tt
    go (IsLinks mag) n = tt
    go IsInfo n = tt
    go (IsOther mag number) n = tt

seen_taint : (i : ℕ) (b : Bool) (o : Option Owner) → seen_by i (taint b o) ≡ tainted_by b (seen_by i o)
seen_taint i b None = refl
seen_taint i b (Some o) = refl

-- after a header
module _ (slot : List ℕ) (mag : ℕ) (kind : kind_of slot ≡ IsHeader mag) (same_mag : (id_of slot).mag ≡ mag) (from : 1 ≤ mag)
    (to : mag ≤ 8) (j : ℤ) (page : Option ℕ)
    (old new : List (Option Owner))
    (noted : (m : ℕ) → m < 8 → get_or new m None
    ≡ (if m == mag - 1 then Some (record { slot = j; page = page; tainted = false })
    else taint (c11 (control_of slot)) (get_or old m None)))
    (ids : List Id) (finds : Finds ids (id_of slot) page) where
  new_here : (m : ℕ) → m < 8 → m ≡ mag - 1 → get_or new m None ≡ Some (record { slot = j; page = page; tainted = false })
  new_here m lt e = noted m lt ∙ cond_both (m == mag - 1) _ _ (λ x. x ≡ Some (record { slot = j; page = page; tainted = false }))
      (λ _. refl) (λ f. absurd (both_ways _ f (eq-eqb m (mag - 1) e)))

  new_other : (m : ℕ) → m < 8 → (m ≡ mag - 1 → ⊥) → get_or new m None ≡ taint (c11 (control_of slot)) (get_or old m None)
  new_other m lt d = noted m lt ∙ cond_both (m == mag - 1) _ _ (λ x. x ≡ taint (c11 (control_of slot)) (get_or old m None))
      (λ e. absurd (d (eqb-true m (mag - 1) e))) (λ _. refl)

  pub owner_comes : (i : ℕ) (id : Id) → slice_get ids i ≡ Some id → IsId id → owner_for new i id
      ≡ owner_after id j (packet_of slot) (owner_for old i id)
  owner_comes i id at is = rw (packet_is slot (IsHeader mag) kind)
      (elim (cases_Bool ((id_of slot).mag == id.mag)) as
      (λ _. owner_for new i id ≡ owner_after id j (packet_of_kind slot (IsHeader mag)) (owner_for old i id)) [
        | inl e ↦
            let q : (id_of slot).mag ≡ id.mag = eqb-true (id_of slot).mag id.mag e in
            let h = is.mag_from in let g = is.mag_to in
            ap (seen_by i) (new_here (id.mag - 1) (omega arith) (omega arith))
            ∙ ap (λ b. Some (record { slot = j; mine = b; tainted = false })) (finds i id at)
            ∙ cond_both ((id_of slot).mag == id.mag) _ _
            (λ x. Some (record { slot = j; mine = same_id id (id_of slot); tainted = false }) ≡ x) (λ _. refl)
            (λ f. absurd (both_ways _ f e))
        | inr e ↦
            let h = is.mag_from in let g = is.mag_to in
            let d : (id.mag - 1 ≡ mag - 1 → ⊥) = λ p. both_ways _ e (eq-eqb (id_of slot).mag id.mag (omega arith)) in
            ap (seen_by i) (new_other (id.mag - 1) (omega arith) d) ∙ seen_taint i (c11 (control_of slot)) (get_or old (id.mag - 1) None)
            ∙ ap (λ b. tainted_by (not b && c11 (control_of slot)) (owner_for old i id)) (sym e)
            ∙ cond_both ((id_of slot).mag == id.mag) _ _
            (λ x. tainted_by (not ((id_of slot).mag == id.mag) && c11 (control_of slot)) (owner_for old i id) ≡ x)
            (λ f. absurd (both_ways _ e f)) (λ _. refl)
      ])

  foreign_taint : (i : ℕ) (b : Bool) (o : Option Owner) → IsForeign i o → IsForeign i (taint b o)
  foreign_taint i b None f = f
  foreign_taint i b (Some o) f = f

  other_mag : (a b : Id) → (a.mag ≡ b.mag → ⊥) → same_id a b ≡ false
  other_mag a b d = elim (cases_Bool (same_id a b)) as
      (λ _. same_id a b ≡ false) [ inl e ↦ absurd (d (eqb-true a.mag b.mag ((and_parts _ _ (and_parts _ _ e).0).0))) | inr e ↦ e ]

  pub apart_comes : AreApart ids old → AreApart ids new
  apart_comes a m i id lt at d = elim (cases_Bool (m == mag - 1)) as (λ _. IsForeign i (get_or new m None)) [
    | inl e ↦ let q : m ≡ mag - 1 = eqb-true m (mag - 1) e in
        subst (IsForeign i) (sym (new_here m lt q)) (finds i id at ∙ other_mag id (id_of slot) (λ p. d (omega arith)))
    | inr e ↦ subst (IsForeign i) (sym (new_other m lt (λ q. both_ways _ e (eq-eqb m (mag - 1) q))))
        (foreign_taint i (c11 (control_of slot)) (get_or old m None) (a m i id lt at d))
  ]

-- the same for a header as it was read
module _ (slot : List ℕ) (kind : kind_of slot ≡ IsHeader (id_of slot).mag) (is : IsId (id_of slot)) (hid : Id) (same : hid ≡ id_of slot)
    (mag : ℕ) (same_mag : mag ≡ hid.mag)
    (ends : Bool) (same_ends : ends ≡ c11 (control_of slot)) (j : ℤ) (page : Option ℕ) (old new : List (Option Owner))
    (noted : (m : ℕ) → m < 8 → get_or new m None
    ≡ (if m == mag - 1 then Some (record { slot = j; page = page; tainted = false }) else taint ends (get_or old m None)))
    (ids : List Id) (finds : Finds ids hid page) where
  as_noted : (m : ℕ) → m < 8 → get_or new m None
      ≡ (if m == (id_of slot).mag - 1 then Some (record { slot = j; page = page; tainted = false })
      else taint (c11 (control_of slot)) (get_or old m None))
  as_noted m lt = noted m lt
      ∙ ap (λ x. if m == x - 1 then Some (record { slot = j; page = page; tainted = false }) else taint ends (get_or old m None))
      (same_mag ∙ ap (λ x. x.mag) same)
      ∙ ap (λ x. if m == (id_of slot).mag - 1 then Some (record { slot = j; page = page; tainted = false })
      else taint x (get_or old m None)) same_ends

  as_found : Finds ids (id_of slot) page
  as_found = subst (λ x. Finds ids x page) same finds

  pub header_noted : (i : ℕ) (id : Id) → slice_get ids i ≡ Some id → IsId id → owner_for new i id
      ≡ owner_after id j (packet_of slot) (owner_for old i id)
  header_noted = owner_comes slot (id_of slot).mag kind refl is.mag_from is.mag_to j page old new as_noted ids as_found

  pub header_apart : AreApart ids old → AreApart ids new
  header_apart = apart_comes slot (id_of slot).mag kind refl is.mag_from is.mag_to j page old new as_noted ids as_found
