-- Which items come under a header, by the transmissions of a period.
use Rattle.std.proofs.Common.{◌≡◌, ◌↔◌, ℕ, ◌+◌, ◌<◌, ◌≤◌, ℤ, pos, ◌+ℤ◌, ◌-ℤ◌, ◌<ℤ◌, ◌≤ℤ◌, IsTrue, true, ◌||◌, List, [], ◌∷◌, length, refl, sym, subst}
use Rattle.std.proofs.Common.{inl, inr, arith}
use Rattle.std.proofs.lemmas.Int.{ints}
use Rattle.std.proofs.lemmas.Bool.{and_from, and_parts, or_cases, or_left, or_right, both_ways, cases_lt}
use Rattle.std.proofs.lemmas.Bool.Decides.{Decides-int_eq}
use Rattle.std.specs.List.{list_any}
use Rattle.std.specs.Ordering.{int_eq}
use Rattle.ttx_page.proofs.SlotDistances.{cases_ltz}
use Rattle.ttx_page.specs.Pages.{Page, needed}
use Rattle.ttx_page.specs.declared.item.Item.{Item}
use Rattle.ttx_page.specs.Streams.{Stream, repeated, IsOwned, IsSure}
use Rattle.ttx_page.specs.Laws.{IsSameOn, CyclesRepeat, StreamsMove, OwnersAreUnique, OwnersComeFirst, OwnersAreNear}
use Rattle.ttx_witness.specs.declared.runs.transmissions.Transmission.{Transmission}
use Rattle.ttx_witness.specs.runs.Transmissions.{slot_of}
use Rattle.ttx_witness.specs.runs.Repeating.{Lists, IsSentAt, Tells}
use Rattle.ttx_witness.specs.sent.ItemTransmissions.{sent_in}
use Rattle.ttx_witness.specs.sent.Collected.{item_number, IsItem}
use Rattle.ttx_witness.specs.laws.JudgingLaws.{TransmissionsAreListed}
use Rattle.ttx_certify.proofs.ItemByItem.{needed_item, item_within, one_item}
use Rattle.ttx_subpages.specs.WholeBlocks.{ComesUnder, IsWhole}
use Rattle.ttx_subpages.specs.Lacks.{is_under, comes_in}

-- the items of a page, one after the other
module _ (s : Stream) (p : Page) (lines : ℕ) (h : ℤ) where
  abbrev pub ComeBelow : ℕ → Type 0
  ComeBelow n = (item : Item) → item_number item < n → needed p item ≡ true → ComesUnder s p lines item h

  pub come_more : (n : ℕ) (own : Item) → IsItem own → item_number own ≡ n → ComeBelow n →
      (needed p own ≡ true → ComesUnder s p lines own h) → ComeBelow (n + 1)
  come_more n own is number old here item lt need = elim (cases_lt (item_number item) n) as (λ _. ComesUnder s p lines item h) [
    | inl less ↦ old item less need
    | inr ge ↦
        let same : own ≡ item = one_item own item is (needed_item p item need) (omega arith) in
        subst (λ x. ComesUnder s p lines x h) same (here (subst (λ x. needed p x ≡ true) (sym same) need))
  ]

  pub all_come : (n : ℕ) → 26 ≤ n → ComeBelow n → IsWhole s p lines h
  all_come n enough old item need =
      let lt = item_within item (needed_item p item need) in old item (omega arith) need

-- what comes under a header comes under that some periods away
pub moved : StreamsMove → (s : Stream) (d : ℤ) → IsSameOn s d → (p : Page) (lines : ℕ) (item : Item) (h : ℤ) → ComesUnder s p lines item h →
    ComesUnder s p lines item (h +ℤ d)
moved move s d same p lines item h c =
    let m = move s d same in
    record {
      slot = c.slot +ℤ d;
      owned = m.owned p.id item h c.slot c.owned;
      sure = m.sure lines p.id.mag item h c.slot c.sure;
    }

-- the laws of streams and of their lists
pub record ListLaws : Type 0 where
  pub listed : TransmissionsAreListed
  pub move : StreamsMove
  pub again : CyclesRepeat
  pub unique : OwnersAreUnique
  pub first : OwnersComeFirst
  pub near : OwnersAreNear

module _ (laws : ListLaws) (cycle : List (List ℕ)) (some : 1 ≤ length cycle) (few : length cycle ≤ 65536) (p : Page) (lines : ℕ) (item : Item)
    (h : ℤ) where
  abbrev s : Stream
  s = repeated cycle

  abbrev n : ℕ
  n = length cycle

  abbrev Owned : ℤ → ℤ → Type 0
  Owned = IsOwned s p.id item

  abbrev Sure : ℤ → ℤ → Type 0
  Sure = IsSure s lines p.id.mag item

  abbrev Told : List Transmission → ℤ → ℤ → Type 0
  Told ts low high = Lists slot_of (IsSentAt Owned) (Tells Owned Sure) low high ts

  period : IsSameOn s (pos n)
  period = laws.again cycle (omega arith)

  back : IsSameOn s (pos 0 -ℤ pos n)
  back = (laws.move s (pos n) period).back

  -- a transmission that the test finds comes under the header
  one_told : (t : Transmission) → Tells Owned Sure t → is_under h n t ≡ true → ComesUnder s p lines item h
  one_told t is under =
      let parts = and_parts t.sure (int_eq t.owner h || int_eq (t.owner +ℤ pos n) h) under in
      let here : ComesUnder s p lines item t.owner = record { slot = t.slot; owned = is.owned; sure = is.sure.0 parts.0 } in
      elim (or_cases (int_eq t.owner h) (int_eq (t.owner +ℤ pos n) h) parts.1) as (λ _. ComesUnder s p lines item h) [
        | inl e ↦ subst (ComesUnder s p lines item) ((Decides-int_eq t.owner h).0 e) here
        | inr e ↦ subst (ComesUnder s p lines item) ((Decides-int_eq (t.owner +ℤ pos n) h).0 e)
            (moved laws.move s (pos n) period p lines item t.owner here)
      ]

  told : (ts : List Transmission) (low high : ℤ) → Told ts low high → list_any (is_under h n) ts ≡ true → ComesUnder s p lines item h
  told [] low high l any = absurd (both_ways _ refl any)
  told (t ∷ ts) low high l any = elim (or_cases (is_under h n t) (list_any (is_under h n) ts) any) as (λ _. ComesUnder s p lines item h)
      [ inl e ↦ one_told t l.0 e | inr e ↦ told ts (t.slot +ℤ pos 1) high l.4 e ]

  -- the transmission in a slot is in the list
  found : (ts : List Transmission) (low high x : ℤ) → Told ts low high → low ≤ℤ x → x <ℤ high → IsSentAt Owned x →
      ((t : Transmission) → Tells Owned Sure t → t.slot ≡ x → is_under h n t ≡ true) → list_any (is_under h n) ts ≡ true
  found [] low high x l a b sent f = absurd (l x a b sent)
  found (t ∷ ts) low high x l a b sent f = elim (cases_ltz x t.slot) as (λ _. list_any (is_under h n) (t ∷ ts) ≡ true) [
    | inl lt ↦ absurd (l.3 x a lt sent)
    | inr ge ↦ elim (cases_ltz t.slot x) as (λ _. list_any (is_under h n) (t ∷ ts) ≡ true) [
      | inl lt ↦ or_right (is_under h n t) (list_any (is_under h n) ts) (found ts (t.slot +ℤ pos 1) high x l.4 (omega (arith, ints)) b sent f)
      | inr le ↦ or_left (is_under h n t) (list_any (is_under h n) ts) (f t l.0 (omega (arith, ints)))
    ]
  ]

  -- under a header in the period
  comes : pos 0 ≤ℤ h → h <ℤ pos n → ComesUnder s p lines item h → comes_in cycle p lines item h ≡ true
  comes low high c =
      let le = laws.first s p.id item h c.slot c.owned in
      let lt = laws.near s n (omega arith) period p.id item h c.slot c.owned in
      let list = (laws.listed cycle some few p.id lines item).0 in
      elim (cases_ltz c.slot (pos n)) as (λ _. comes_in cycle p lines item h ≡ true) [
        | inl inside ↦
            found (sent_in cycle p.id lines item) (pos 0) (pos n) c.slot list (omega (arith, ints)) inside (record { owner = h; owned = c.owned })
            (λ t is e.
            let same : t.owner ≡ h = laws.unique s p.id item t.owner h c.slot (subst (Owned t.owner) e is.owned) c.owned in
            and_from t.sure (int_eq t.owner h || int_eq (t.owner +ℤ pos n) h)
            (is.sure.1 (subst (λ x. Sure t.owner x) (sym e) (subst (λ x. Sure x c.slot) (sym same) c.sure)))
            (or_left (int_eq t.owner h) (int_eq (t.owner +ℤ pos n) h) ((Decides-int_eq t.owner h).1 same)))
        | inr past ↦
            let m = laws.move s (pos 0 -ℤ pos n) back in
            let k = h +ℤ (pos 0 -ℤ pos n) in
            let j = c.slot +ℤ (pos 0 -ℤ pos n) in
            let owned : Owned k j = m.owned p.id item h c.slot c.owned in
            let sure : Sure k j = m.sure lines p.id.mag item h c.slot c.sure in
            found (sent_in cycle p.id lines item) (pos 0) (pos n) j list (omega (arith, ints)) (omega (arith, ints))
            (record { owner = k; owned = owned })
            (λ t is e.
            let same : t.owner ≡ k = laws.unique s p.id item t.owner k j (subst (Owned t.owner) e is.owned) owned in
            let round : t.owner +ℤ pos n ≡ h = omega (arith, ints) in
            and_from t.sure (int_eq t.owner h || int_eq (t.owner +ℤ pos n) h)
            (is.sure.1 (subst (λ x. Sure t.owner x) (sym e) (subst (λ x. Sure x j) (sym same) sure)))
            (or_right (int_eq t.owner h) (int_eq (t.owner +ℤ pos n) h) ((Decides-int_eq (t.owner +ℤ pos n) h).1 round)))
      ]

  -- the test decides it
  pub decides : pos 0 ≤ℤ h → h <ℤ pos n → IsTrue (comes_in cycle p lines item h) ↔ ComesUnder s p lines item h
  decides low high =
      (told (sent_in cycle p.id lines item) (pos 0) (pos n) (laws.listed cycle some few p.id lines item).0, comes low high)
