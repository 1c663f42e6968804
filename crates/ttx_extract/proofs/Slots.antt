-- The slots of a cycle's stream, and the first transmission of a list.
use Rattle.std.proofs.Common.{◌≡◌, ℕ, ◌<◌, ℤ, pos, negsuc, ◌≤ℤ◌, List, [], ◌∷◌, length, get_or, slice_get, Some, None, refl, ap, mod-eq_of_lt, subst}
use Rattle.std.proofs.Common.{arith}
use Rattle.std.proofs.lemmas.Int.{ints}
use Rattle.std.specs.Prelude.{unsigned_abs}
use Rattle.ttx_header.specs.Ids.{Id}
use Rattle.ttx_page.specs.declared.item.Item.{Item}
use Rattle.ttx_page.specs.Streams.{repeated, IsOwned, IsSure, IsTransmission}
use Rattle.ttx_witness.specs.declared.runs.transmissions.Transmission.{Transmission}
use Rattle.ttx_witness.specs.runs.Repeating.{AreSent}

pub slot_is : (cycle : List (List ℕ)) (i : ℕ) → i < length cycle → repeated cycle (pos i) ≡ get_or cycle i []
slot_is cycle i lt = ap (λ x. get_or cycle x []) (mod-eq_of_lt lt)

pub abs_is : (z : ℤ) → pos 0 ≤ℤ z → z ≡ pos (unsigned_abs z)
abs_is (pos n) le = refl
abs_is (negsuc n) le = absurd (omega (arith, ints))

some_same : (a b : Transmission) → Some a ≡ Some b → a ≡ b
some_same a b e = cc

pub first_sent : (cycle : List (List ℕ)) (page : Id) (lines : ℕ) (item : Item) (ts : List Transmission) →
    AreSent (IsOwned (repeated cycle) page item) (IsSure (repeated cycle) lines page.mag item) (pos 0) (pos (length cycle)) ts →
    (first : Transmission) → slice_get ts 0 ≡ Some first → IsTransmission (repeated cycle) page item (pos (unsigned_abs first.slot))
first_sent cycle page lines item [] sent first is = absurd (let h : None ≡ Some first = is in cc)
first_sent cycle page lines item (t ∷ ts) sent first is =
    let same : t ≡ first = some_same t first is in
    subst (λ u. IsTransmission (repeated cycle) page item (pos (unsigned_abs u.slot))) same
    (subst (IsTransmission (repeated cycle) page item) (abs_is t.slot sent.1) (record { owner = t.owner; owned = sent.0.owned }))
