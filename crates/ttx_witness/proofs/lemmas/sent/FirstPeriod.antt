-- The transmissions in the first period of a cycle after another cycle.
use Rattle.std.proofs.Common.{◌≡◌, ℕ, zero, suc, ◌≤◌, ℤ, pos, negsuc, ◌+ℤ◌, ◌-ℤ◌, ◌<ℤ◌, ◌≤ℤ◌, Bool, true, false, List, [], ◌∷◌, ◌++◌, length, Option}
use Rattle.std.proofs.Common.{Some, None, refl, sym, ap, ◌∙◌, subst, arith}
use Rattle.std.specs.List.{AllByRecursion}
use Rattle.std.proofs.lemmas.Int.{ints}
use Rattle.std.proofs.lemmas.Bool.{cond_both}
use Rattle.ttx_header.specs.Ids.{Id}
use Rattle.ttx_page.specs.Packets.{Packet, packet_of}
use Rattle.ttx_page.specs.declared.item.Item.{Item}
use Rattle.ttx_page.specs.declared.item.Item.TheVariants.{Head as TheHead, Row as TheRow, Links as TheLinks}
use Rattle.ttx_page.specs.Streams.{Stream, repeated, joined, heads, heads_page, ends_serial, carries, IsOwned, IsSure}
use Rattle.ttx_witness.specs.runs.Transmissions.{Transmission, slot_of}
use Rattle.ttx_witness.specs.runs.Tracks.{AreInOrder, IsWithin}
use Rattle.ttx_witness.specs.runs.Repeating.{AreSent}
use Rattle.ttx_witness.specs.sent.ItemTransmissions.{PageOwner, tainted_by, owner_after, owner_scan, owner_moved, sent_under, sent_at, sent_scan}
use Rattle.ttx_witness.specs.sent.ItemTransmissions.{sent_after, entry_owner}
use Rattle.ttx_witness.specs.laws.JudgingLaws.{FirstPeriodIsListed}
use Rattle.ttx_witness.proofs.AllBetween.{lists_low, lists_high, lists_rise}
use Rattle.ttx_witness.proofs.lemmas.sent.CycleTransmissions.{period_of}
use Rattle.ttx_witness.proofs.lemmas.sent.StreamOwners as O

-- the slot of the owner is between two slots
abbrev IsBetween : ℤ → ℤ → Option PageOwner → Type 0
IsBetween low high None = Unit {0}
IsBetween low high (Some o) = (low ≤ℤ o.slot) × (o.slot ≤ℤ high)

higher : (low high : ℤ) (b : Bool) (o : Option PageOwner) → IsBetween low high o → IsBetween low (high +ℤ pos 1) (tainted_by b o)
higher low high b None h = tt
higher low high b (Some o) h = let a = h.1 in (h.0, omega (arith, ints))

scan_between : (page : Id) (s : Stream) (entry : Option PageOwner) (low : ℤ) → low ≤ℤ pos 0 → IsBetween low (pos 0) entry → (n : ℕ) →
    IsBetween low (pos n) (owner_scan page s entry n)
unfolding owner_scan
scan_between page s entry low le h zero = h
scan_between page s entry low le h (suc n) =
    let e : pos n +ℤ pos 1 ≡ pos (suc n) = omega (arith, ints) in
    cond_both (heads page.mag (packet_of (s (pos n)))) _ _ (IsBetween low (pos (suc n))) (λ _. (omega (arith, ints), omega (arith, ints)))
    (λ _. subst (λ z. IsBetween low z (tainted_by (ends_serial page.mag (packet_of (s (pos n)))) (owner_scan page s entry n))) e
    (higher low (pos n) (ends_serial page.mag (packet_of (s (pos n)))) (owner_scan page s entry n) (scan_between page s entry low le h n)))

moved_between : (n : ℕ) (o : Option PageOwner) → IsBetween (pos 0) (pos n) o → IsBetween (pos 0 -ℤ pos n) (pos 0) (owner_moved (pos 0 -ℤ pos n) o)
moved_between n None h = tt
moved_between n (Some o) h = let a = h.0 in let b = h.1 in (omega (arith, ints), omega (arith, ints))

entry_between : (before : List (List ℕ)) (page : Id) → IsBetween (pos 0 -ℤ pos (length before)) (pos 0) (entry_owner before page)
entry_between before page = moved_between (length before) (owner_scan page (repeated before) None (length before))
    (scan_between page (repeated before) None (pos 0) (omega (arith, ints)) tt (length before))

abbrev Within : List Transmission → Type 0
Within = AllByRecursion (IsWithin 65536)

under_within : (lines n : ℕ) → n ≤ 65536 → (low : ℤ) → pos 0 ≤ℤ (low +ℤ pos 65536) → (o : Option PageOwner) → IsBetween low (pos n) o →
    Within (sent_under lines (pos n) o)
under_within lines n few low le None h = tt
under_within lines n few low le (Some o) h =
    let a = h.0 in let b = h.1 in
    cond_both o.mine _ _ Within (λ _. (
      record {
        slot_low = omega (arith, ints);
        slot_high = omega (arith, ints);
        owner_low = omega (arith, ints);
        owner_high = omega (arith, ints);
      },
      tt,
    )) (λ _. tt)

at_within : (page : Id) (lines : ℕ) (item : Item) (n : ℕ) → n ≤ 65536 → (low : ℤ) → pos 0 ≤ℤ (low +ℤ pos 65536) →
    (p : Packet) (o : Option PageOwner) → IsBetween low (pos n) o →
    Within (sent_at page lines item (pos n) p o)
at_within page lines TheHead n few low le p o h =
    cond_both (heads_page page p) _ _ Within
    (λ _. (
      record {
        slot_low = omega (arith, ints);
        slot_high = omega (arith, ints);
        owner_low = omega (arith, ints);
        owner_high = omega (arith, ints);
      },
      tt,
    )) (λ _. tt)
at_within page lines (TheRow r) n few low le p o h =
    cond_both (carries page.mag (TheRow r) p) _ _ Within (λ _. under_within lines n few low le o h) (λ _. tt)
at_within page lines TheLinks n few low le p o h =
    cond_both (carries page.mag TheLinks p) _ _ Within (λ _. under_within lines n few low le o h) (λ _. tt)

both_within : (ts us : List Transmission) → Within ts → Within us → Within (ts ++ us)
both_within [] us a b = b
both_within (t ∷ ts) us a b = (a.0, both_within ts us a.1 b)

scan_within : (page : Id) (lines : ℕ) (item : Item) (s : Stream) (entry : Option PageOwner) (low : ℤ) → low ≤ℤ pos 0 →
    pos 0 ≤ℤ (low +ℤ pos 65536) → IsBetween low (pos 0) entry → (n : ℕ) → n ≤ 65536 →
    Within (sent_scan page lines item s entry n)
unfolding sent_scan
scan_within page lines item s entry low le some h zero few = tt
scan_within page lines item s entry low le some h (suc n) few =
    both_within (sent_scan page lines item s entry n) _ (scan_within page lines item s entry low le some h n (omega arith))
    (at_within page lines item n (omega arith) low some (packet_of (s (pos n))) (owner_scan page s entry n) (scan_between page s entry low le h n))

module _ (before cycle : List (List ℕ)) where
  abbrev s : Stream
  s = joined before cycle

  below : (i : ℤ) → i <ℤ pos 0 → repeated before i ≡ s i
  below (pos i) lt = absurd (omega (arith, ints))
  below (negsuc i) lt = refl

  module _ (page : Id) where
    -- the owner before slot 0 is that of the other cycle
    carried : (o : Option PageOwner) → O.IsOwnerAt page (repeated before) o (pos 0) → O.IsOwnerAt page s o (pos 0)
    carried None a = λ i lt. subst (λ x. heads page.mag (packet_of x) ≡ false) (below i lt) (a i lt)
    carried (Some o) a =
        let early = a.latest.earlier in
        record {
          latest = record {
            earlier = early;
            is_header = subst (λ x. heads page.mag (packet_of x) ≡ true) (below o.slot early) a.latest.is_header;
            none_between = λ i low lt. subst (λ x. heads page.mag (packet_of x) ≡ false) (below i lt) (a.latest.none_between i low lt);
          };
          mine = subst (λ x. o.mine ≡ heads_page page (packet_of x)) (below o.slot early) a.mine;
          untainted = (
            (λ e i low lt. subst (λ x. ends_serial page.mag (packet_of x) ≡ false) (below i lt) (a.untainted.0 e i low lt)),
            (λ u. a.untainted.1 (λ i low lt. subst (λ x. ends_serial page.mag (packet_of x) ≡ false) (sym (below i lt)) (u i low lt))),
          );
        }

    module _ (lines : ℕ) (item : Item) where
      same_owner : (entry : Option PageOwner) (n : ℕ) → owner_scan page s entry n ≡ owner_scan page (repeated cycle) entry n
      unfolding owner_scan
      same_owner entry zero = refl
      same_owner entry (suc n) = ap (owner_after page (pos n) (packet_of (repeated cycle (pos n)))) (same_owner entry n)

      same_sent : (entry : Option PageOwner) (n : ℕ) → sent_scan page lines item s entry n ≡ sent_scan page lines item (repeated cycle) entry n
      unfolding sent_scan
      same_sent entry zero = refl
      same_sent entry (suc n) =
          ap (λ x. x ++ sent_at page lines item (pos n) (packet_of (repeated cycle (pos n))) (owner_scan page s entry n)) (same_sent entry n)
          ∙ ap (λ o. sent_scan page lines item (repeated cycle) entry n
          ++ sent_at page lines item (pos n) (packet_of (repeated cycle (pos n))) o) (same_owner entry n)

      pub after_told : 1 ≤ length before →
          AreSent (IsOwned s page item) (IsSure s lines page.mag item) (pos 0) (pos (length cycle)) (sent_after before cycle page lines item)
      after_told some =
          subst (AreSent (IsOwned s page item) (IsSure s lines page.mag item) (pos 0) (pos (length cycle)))
          (same_sent (entry_owner before page) (length cycle))
          (O.scan_told page s lines item (entry_owner before page)
          (carried (entry_owner before page) (O.first_entry page (repeated before) (length before) some (period_of before)))
          (length cycle))

-- the numbers are small
pub after_within : (before cycle : List (List ℕ)) → length before ≤ 65536 → length cycle ≤ 65536 →
    (page : Id) (lines : ℕ) (item : Item) → Within (sent_after before cycle page lines item)
after_within before cycle few few_new page lines item =
    scan_within page lines item (repeated cycle) (entry_owner before page) (pos 0 -ℤ pos (length before)) (omega (arith, ints))
    (omega (arith, ints)) (entry_between before page) (length cycle) few_new

-- and the slots rise
pub after_in_order : (before cycle : List (List ℕ)) → 1 ≤ length before → length cycle ≤ 65536 → (page : Id) (lines : ℕ) (item : Item) →
    AreInOrder (sent_after before cycle page lines item)
after_in_order before cycle some few page lines item =
    let l = after_told before cycle page lines item some in
    let ts = sent_after before cycle page lines item in
    record {
      low = λ k d lt. lists_low slot_of _ _ (pos 0) (pos (length cycle)) ts l k d lt;
      high = λ k d lt. let h = lists_high slot_of _ _ (pos 0) (pos (length cycle)) ts l k d lt in omega (arith, ints);
      rising = lists_rise slot_of _ _ (pos 0) (pos (length cycle)) ts l;
    }

pub first_period_is_listed : FirstPeriodIsListed
first_period_is_listed before cycle some page lines item = after_told before cycle page lines item some
