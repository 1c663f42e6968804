-- What a pass over one period finds of a stream that repeats it.
use Rattle.std.proofs.Common.{◌≡◌, ◌↔◌, ℕ, suc, ◌+◌, ◌<◌, ◌≤◌, ℤ, pos, ◌+ℤ◌, ◌-ℤ◌, ◌<ℤ◌, ◌≤ℤ◌, Bool, true, false, not, if◌then◌else◌, List, []}
use Rattle.std.proofs.Common.{length, slice_index_or, nat_abs, Option, Some, None, refl, sym, ap, ◌∙◌, subst, inl, inr, arith, mod-eq_of_lt}
use Rattle.std.proofs.lemmas.Int.{ints}
use Rattle.std.proofs.lemmas.Bool.{cases_lt, and_from, and_parts, cond_both, both_ways, not-true, not_from_false}
use Rattle.ttx_header.specs.Ids.{Id}
use Rattle.ttx_page.specs.Packets.{Packet, packet_of}
use Rattle.ttx_page.specs.Pages.{Page}
use Rattle.ttx_page.specs.declared.item.Item.{Item}
use Rattle.ttx_page.specs.declared.selection.Selection.TheVariants.{AnySub}
use Rattle.ttx_page.specs.declared.item.Item.TheVariants.{Head as TheHead, Row as TheRow, Links as TheLinks}
use Rattle.ttx_page.specs.Streams.{Stream, repeated, heads, heads_page, heads_matched, ends_serial, IsOwned, IsTransmission, IsLatestHeader}
use Rattle.ttx_page.specs.Steady.{HasHeader}
use Rattle.ttx_witness.specs.sent.ItemTransmissions.{PageOwner, owner_after, owner_scan, tainted_by, entry_owner}
use Rattle.ttx_witness.specs.faults.Comparing.{is_mine, mine_after, sends, compared_item, IsWrong, WrongAt, OtherHeaderAt, heads_other_subpage}
use Rattle.ttx_witness.specs.declared.faults.wrong_slots.Check.{Check}
use Rattle.ttx_witness.specs.faults.Faults.{Never}
use Rattle.ttx_witness.specs.faults.FirstSlots.{SentBelow}
use Rattle.ttx_witness.proofs.lemmas.runs.EveryPeriod.{everywhere}
use Rattle.ttx_witness.proofs.lemmas.sent.Periods.{latest_same}
use Rattle.ttx_witness.proofs.lemmas.sent.StreamOwners as O
use Rattle.ttx_witness.proofs.lemmas.sent.CycleTransmissions.{period_of, law}

-- the slots of the first period are those of the cycle
pub slot_is : (cycle : List (List ℕ)) (j : ℕ) → j < length cycle → repeated cycle (pos j) ≡ slice_index_or cycle j []
slot_is cycle j lt = ap (λ n. slice_index_or cycle n []) (mod-eq_of_lt lt)

-- the latest header after a slot
mine_tainted : (b : Bool) (o : Option PageOwner) → is_mine (tainted_by b o) ≡ is_mine o
mine_tainted b None = refl
mine_tainted b (Some o) = refl

mine_step : (page : Id) (j : ℤ) (packet : Packet) (o : Option PageOwner) → mine_after page packet (is_mine o) ≡ is_mine (owner_after page j packet o)
mine_step page j packet o = cond_both (heads page.mag packet) _ _ (λ x. mine_after page packet (is_mine o) ≡ is_mine x)
    (λ e. ap (λ b. if b then heads_page page packet else is_mine o) e)
    (λ e. ap (λ b. if b then heads_page page packet else is_mine o) e ∙ sym (mine_tainted (ends_serial page.mag packet) o))

pub mine_scan : (page : Id) (s : Stream) (entry : Option PageOwner) (j : ℕ) →
    mine_after page (packet_of (s (pos j))) (is_mine (owner_scan page s entry j)) ≡ is_mine (owner_scan page s entry (j + 1))
unfolding owner_scan
mine_scan page s entry j = let e : suc j ≡ j + 1 = omega arith
    in mine_step page (pos j) (packet_of (s (pos j))) (owner_scan page s entry j)
    ∙ ap (λ n. is_mine (owner_scan page s entry n)) e

-- whether a slot sends the item, by its owner
module _ (page : Id) (s : Stream) (j : ℤ) where
  by_owner : (o : Option PageOwner) → O.IsOwnerAt page s o j → (is_mine o ≡ true)
      ↔ ((h : ℤ) × IsLatestHeader s page.mag h j × (heads_page page (packet_of (s h)) ≡ true))
  by_owner None a = ((λ e. cc), (λ t. absurd (both_ways _ (a t.0 t.1.earlier) t.1.is_header)))
  by_owner (Some o) a = (
    (λ e. (o.slot, a.latest, sym a.mine ∙ e)),
    (λ t. a.mine ∙ subst (λ h. heads_page page (packet_of (s h)) ≡ true) (latest_same s page.mag t.0 o.slot j t.1 a.latest) t.2),
  )

  sends_is : (item : Item) (o : Option PageOwner) → O.IsOwnerAt page s o j → (sends page item (packet_of (s j)) (is_mine o) ≡ true)
      ↔ IsTransmission s page item j
  sends_is TheHead o a = ((λ e. record { owner = j; owned = (refl, e) }), (λ t. t.owned.1))
  sends_is (TheRow r) o a = (
    (λ e. let h = (by_owner o a).0 ((and_parts _ _ e).1) in record { owner = h.0; owned = (h.1, h.2, (and_parts _ _ e).0) }),
    (λ t. and_from _ _ t.owned.2 ((by_owner o a).1 (t.owner, t.owned.0, t.owned.1))),
  )
  sends_is TheLinks o a = (
    (λ e. let h = (by_owner o a).0 ((and_parts _ _ e).1) in record { owner = h.0; owned = (h.1, h.2, (and_parts _ _ e).0) }),
    (λ t. and_from _ _ t.owned.2 ((by_owner o a).1 (t.owner, t.owned.0, t.owned.1))),
  )

module _ (cycle : List (List ℕ)) (some : 1 ≤ length cycle) where
  abbrev s : Stream
  s = repeated cycle

  abbrev n : ℕ
  n = length cycle

  pub period : (i : ℤ) → s (i +ℤ pos n) ≡ s i
  period = period_of cycle

  pub back : (i : ℤ) → s (i -ℤ pos n) ≡ s i
  back i = let e : (i -ℤ pos n) +ℤ pos n ≡ i = omega (arith, ints) in sym (period (i -ℤ pos n)) ∙ ap s e

  -- what holds at no slot of a period holds nowhere
  pub nowhere : (P : ℤ → Type 0) → ((i : ℤ) → P (i +ℤ pos n) → P i) → ((i : ℤ) → P (i -ℤ pos n) → P i) → ((i : ℕ) → i < n → P (pos i) → ⊥) → Never P
  nowhere P up down none = everywhere n some (λ i. P i → ⊥) base (λ i h q. h (up i q)) (λ i h q. h (down i q))
    where
      base : (i : ℤ) → pos 0 ≤ℤ i → i <ℤ pos n → P i → ⊥
      base i low high q = let e : i ≡ pos (nat_abs i) = omega (arith, ints) in none (nat_abs i) (omega (arith, ints)) (subst P e q)

  pub sent_down : (page : Id) (item : Item) (i : ℤ) → IsTransmission s page item (i +ℤ pos n) → IsTransmission s page item i
  sent_down page item i t =
      let e : (i +ℤ pos n) -ℤ pos n ≡ i = omega (arith, ints) in
      record {
        owner = t.owner -ℤ pos n;
        owned = subst (IsOwned s page item (t.owner -ℤ pos n)) e
            ((law cycle some page 0 item).owned_earlier t.owner (i +ℤ pos n) t.owned);
      }

  pub sent_up : (page : Id) (item : Item) (i : ℤ) → IsTransmission s page item (i -ℤ pos n) → IsTransmission s page item i
  sent_up page item i t =
      let e : (i -ℤ pos n) +ℤ pos n ≡ i = omega (arith, ints) in
      record {
        owner = t.owner +ℤ pos n;
        owned = subst (IsOwned s page item (t.owner +ℤ pos n)) e
            ((law cycle some page 0 item).owned_later t.owner (i -ℤ pos n) t.owned);
      }

  pub never_wrong : (p : Page) (check : Check) → ((i : ℕ) → i < n → WrongAt s p check (pos i) → ⊥) → Never (WrongAt s p check)
  never_wrong p check = nowhere (WrongAt s p check)
      (λ i w. record { sent = sent_down p.id (compared_item check) i w.sent; wrong = subst (IsWrong p check) (period i) w.wrong })
      (λ i w. record { sent = sent_up p.id (compared_item check) i w.sent; wrong = subst (IsWrong p check) (back i) w.wrong })

  pub never_other : (page : Id) → ((i : ℕ) → i < n → OtherHeaderAt s page (pos i) → ⊥) → Never (OtherHeaderAt s page)
  never_other page = nowhere (OtherHeaderAt s page)
      (λ i w. record {
        number = subst (λ x. heads_matched (AnySub page.mag page.page) (packet_of x) ≡ true) (period i) w.number;
        other = subst (λ x. heads_page page (packet_of x) ≡ false) (period i) w.other;
      })
      (λ i w. record {
        number = subst (λ x. heads_matched (AnySub page.mag page.page) (packet_of x) ≡ true) (back i) w.number;
        other = subst (λ x. heads_page page (packet_of x) ≡ false) (back i) w.other;
      })

  pub never_heads : (page : Id) → ((i : ℕ) → i < n → heads_page page (packet_of (s (pos i))) ≡ true → ⊥) → HasHeader s page → ⊥
  never_heads page none h = nowhere (λ i. heads_page page (packet_of (s i)) ≡ true)
      (λ i. subst (λ x. heads_page page (packet_of x) ≡ true) (period i))
      (λ i. subst (λ x. heads_page page (packet_of x) ≡ true) (back i)) none h.slot h.is_header

  -- the owner at each slot of the period
  owner_at : (page : Id) (j : ℕ) → O.IsOwnerAt page s (owner_scan page s (entry_owner cycle page) j) (pos j)
  owner_at page j = O.scan_right page s (entry_owner cycle page) (O.first_entry page s n some period) j

  -- the slots that send an item
  pub all_sent : (page : Id) (item : Item) (j : ℕ) → SentBelow page s (entry_owner cycle page) n item j ↔ ((j < n) × IsTransmission s page item (pos j))
  all_sent page item j =
      let is = sends_is page s (pos j) item (owner_scan page s (entry_owner cycle page) j) (owner_at page j) in
      ((λ h. (h.0, is.0 h.1)), (λ h. (h.0, is.1 h.1)))

pub other_is : (s : Stream) (page : Id) (j : ℤ) → (heads_other_subpage page (packet_of (s j)) ≡ true) ↔ OtherHeaderAt s page j
other_is s page j = (
  (λ e. record { number = (and_parts _ _ e).0; other = not-true _ ((and_parts _ _ e).1) }),
  (λ h. and_from _ _ h.number (not_from_false _ h.other)),
)

-- not among the first j, nor the next
pub one_more : (P : ℕ → Type 0) (j : ℕ) → ((i : ℕ) → i < j → P i → ⊥) → (P j → ⊥) → (i : ℕ) → i < j + 1 → P i → ⊥
one_more P j none not i lt q = elim (cases_lt i j) as (λ _. ⊥)
    [ inl less ↦ none i less q | inr ge ↦ let e : i ≡ j = omega arith in not (subst P e q) ]
