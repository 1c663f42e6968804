-- A number that both cycles send whole, in the joined stream: each block is whole there, too.
use Rattle.std.proofs.Common.{◌≡◌, ◌⊎◌, ℕ, ◌-◌, ◌<◌, ℤ, pos, negsuc, ◌+ℤ◌, ◌-ℤ◌, ◌≤ℤ◌, true, false, List, length, sym, subst, inl, inr, arith}
use Rattle.std.proofs.lemmas.Int.{ints}
use Rattle.std.proofs.lemmas.Bool.{both_ways}
use Rattle.ttx_page.proofs.SlotDistances.{cases_ltz}
use Rattle.ttx_page.specs.Laws.{OwnersAreNear, CyclesRepeat}
use Rattle.ttx_page.specs.Packets.{packet_of}
use Rattle.ttx_page.specs.Pages.{Page, IsPage, needed}
use Rattle.ttx_page.specs.declared.item.Item.{Item}
use Rattle.ttx_page.specs.declared.selection.Selection.TheVariants.{AnySub}
use Rattle.ttx_page.specs.Streams.{Stream, repeated, heads, heads_page, heads_matched, IsOwned, IsSure}
use Rattle.ttx_page.specs.Receptions.{Received}
use Rattle.ttx_page.specs.Steady.{IsChecked, IsTrueTo}
use Rattle.ttx_page.specs.Followers.{IsFollowed, heads_another}
use Rattle.ttx_certify.specs.Seen.{HasView}
use Rattle.ttx_late.specs.LateReceivers.{LateMemory}
use Rattle.ttx_subpages.specs.WholeBlocks.{IsSubpage, ComesUnder}
use Rattle.ttx_subpages.specs.ListsInForce.{SendsListed, ShowsListed}
use Rattle.ttx_subpages.specs.SeenInTurn.{ShowsOne}
use Rattle.ttx_subpages.specs.Laws.{ListedBlocksAreSeen}
use Rattle.ttx_proof.specs.Splices.{Splice, stream, NumbersAgree}
use Rattle.ttx_proof.specs.Laws.{IsSplice, BothAccepted}
use Rattle.ttx_proof.proofs.StreamsOfSides.{StreamLaws}
use Rattle.ttx_proof.proofs.StreamsOfSides as S
use Rattle.ttx_proof.proofs.BridgedIsSeen as B
use Rattle.ttx_change.specs.OldOrNew.{lists_of, SendsNumber, EndsWhole, HasEnded, TunesThrough, ChangesAreWhole}

module _ (laws : StreamLaws) (near : OwnersAreNear) (again : CyclesRepeat) (c : Splice) (is : IsSplice c) (both : BothAccepted c)
    (alike : NumbersAgree c.old_certificate c.new_certificate) (ends : EndsWhole c) (mag number : ℕ)
    (olds : SendsNumber c.old c.old_pages c.old_certificate.lines mag number)
    (news : SendsNumber c.new c.new_pages c.new_certificate.lines mag number) where
  abbrev s : Stream
  s = stream c

  abbrev lines : ℕ
  lines = c.new_certificate.lines

  abbrev Subpage : ℤ → Page → Type 0
  Subpage h p = IsSubpage (lists_of c h) mag number p

  abbrev Heads : Page → ℤ → Type 0
  Heads p h = heads_page p.id (packet_of (s h)) ≡ true

  are_pages : (h : ℤ) (p : Page) → Subpage h p → IsPage p
  are_pages (pos h) p sub = is.new_pages sub.index p sub.listed
  are_pages (negsuc h) p sub = is.old_pages sub.index p sub.listed

  own : (h : ℤ) → heads_matched (AnySub mag number) (packet_of (s h)) ≡ true → (p : Page) × Subpage h p × Heads p h
  own (pos h) matched = (news.whole (pos h)).own matched
  own (negsuc h) matched = (olds.whole (negsuc h)).own matched

  items : (h : ℤ) (p : Page) → Subpage h p → (item : Item) → IsChecked p item → (j : ℤ) → IsOwned s p.id item h j → IsTrueTo p item (s j)
  items (pos h) p sub item checked j owned =
      B.new_items laws c is both alike p (B.own_new laws c is both alike sub.index p sub.listed) item checked (pos h) j (omega (arith, ints)) owned
  items (negsuc h) p sub item checked j owned =
      B.old_items laws c is both alike p (B.own_old laws c is both alike sub.index p sub.listed) (ends.none_stored sub.index p sub.listed) item
      checked (negsuc h) j (omega (arith, ints)) owned

  -- what comes under an old header comes before the change
  module _ (k : ℕ) (p : Page) (sub : IsSubpage c.old_pages mag number p) (item : Item) (need : needed p item ≡ true)
      (u : ComesUnder (repeated c.old) p c.old_certificate.lines item (negsuc k)) where
    not_later : pos 0 ≤ℤ u.slot → ⊥
    not_later high =
        let period = near (repeated c.old) (length c.old) is.old.some (again c.old is.old.some) p.id item (negsuc k) u.slot u.owned in
        let inside : k < length c.old = omega (arith, ints) in
        let slot = length c.old - 1 - k in
        let at : negsuc k ≡ pos slot -ℤ pos (length c.old) = omega (arith, ints) in
        ends.none_amid sub.index p sub.listed slot (record {
          inside = omega arith;
          item = item;
          needed = need;
          next = u.slot;
          not_before = high;
          comes = subst (λ h. IsOwned (repeated c.old) p.id item h u.slot) at u.owned;
        })

    comes_old : ComesUnder s p lines item (negsuc k)
    comes_old = elim (cases_ltz u.slot (pos 0)) as (λ _. ComesUnder s p lines item (negsuc k)) [
      | inl low ↦ record {
        slot = u.slot;
        owned = S.old_owned laws c.old c.new p.id item (negsuc k) u.slot low u.owned;
        sure = (S.old_sure laws c.old c.new lines p.id.mag item (negsuc k) u.slot (omega (arith, ints)) low).0
            (subst (λ l. IsSure (repeated c.old) l p.id.mag item (negsuc k) u.slot) alike.lines u.sure);
      }
      | inr high ↦ absurd (not_later high)
    ]

  whole : (h : ℤ) (p : Page) → Subpage h p → Heads p h → (item : Item) → needed p item ≡ true → ComesUnder s p lines item h
  whole (pos h) p sub head item need =
      let u = (news.whole (pos h)).whole p sub head item need in
      let after = laws.first (repeated c.new) p.id item (pos h) u.slot u.owned in
      record {
        slot = u.slot;
        owned = S.new_owned laws c.old c.new p.id item (pos h) u.slot (omega (arith, ints)) u.owned;
        sure = (S.new_sure laws c.old c.new lines p.id.mag item (pos h) u.slot (omega (arith, ints)) (omega (arith, ints))).0 u.sure;
      }
  whole (negsuc k) p sub head item need = comes_old k p sub item need ((olds.whole (negsuc k)).whole p sub head item need)

  followed : (h : ℤ) (p : Page) → Subpage h p → Heads p h → IsFollowed s p.id h
  followed (pos h) p sub head =
      let f = news.followed p sub (pos h) head in
      let after = f.next.earlier in
      record {
        slot = f.slot;
        next = record {
          earlier = after;
          is_header = f.next.is_header;
          none_between = λ i a b. subst (λ x. heads p.id.mag (packet_of x) ≡ false) (sym (S.above_is laws c.old c.new i (omega (arith, ints))))
              (f.next.none_between i a b);
        };
        another = subst (λ x. heads_another p.id (packet_of x) ≡ true) (sym (S.above_is laws c.old c.new f.slot (omega (arith, ints)))) f.another;
      }
  followed (negsuc k) p sub head =
      let f = olds.followed p sub (negsuc k) head in
      let after = f.next.earlier in
      elim (cases_ltz f.slot (pos 0)) as (λ _. IsFollowed s p.id (negsuc k)) [
        | inl low ↦ record {
          slot = f.slot;
          next = record {
            earlier = after;
            is_header = f.next.is_header;
            none_between = λ i a b. subst (λ x. heads p.id.mag (packet_of x) ≡ false) (sym (S.below_is laws c.old c.new i (omega (arith, ints))))
                (f.next.none_between i a b);
          };
          another = subst (λ x. heads_another p.id (packet_of x) ≡ true) (sym (S.below_is laws c.old c.new f.slot low)) f.another;
        }
        | inr high ↦
            (ends.followed sub.index p sub.listed (negsuc k) (omega (arith, ints)) head
            (λ i a b. subst (λ x. heads p.id.mag (packet_of x) ≡ false) (sym (S.below_is laws c.old c.new i b))
            (f.next.none_between i a (omega (arith, ints))))).0
      ]

  pub sends : SendsListed s (lists_of c) lines mag number
  sends = record {
    slots = λ j. (B.joined_clean laws c is both alike j).0;
    clean = λ j. (B.joined_clean laws c is both alike j).1;
    are_pages = are_pages;
    own = own;
    items = items;
    whole = whole;
    followed = followed;
  }

  module _ (listed : ListedBlocksAreSeen) (tau : ℤ) (former d : LateMemory) (received : List (List ℕ))
      (t : TunesThrough c mag number tau former received d) where
    abbrev now : ℤ
    now = tau +ℤ pos (length received)

    permitted : (h : ℤ) (p : Page) → Subpage h p → Received s p.id 1 tau received
    permitted (pos h) p sub = t.new p sub
    permitted (negsuc h) p sub = t.old p sub

    shown : (begin : ℤ) → tau ≤ℤ begin → (e : HasEnded s mag number begin now) → ShowsListed s (lists_of c) mag number e.header now d
    shown begin le e =
        let o = own e.header e.matched in
        let f = followed e.header o.0 o.1 o.2 in
        let low = e.not_before in
        let high = e.before in
        let soon : f.slot ≤ℤ e.end = elim (cases_ltz e.end f.slot) as (λ _. f.slot ≤ℤ e.end) [
          | inr ge ↦ ge
          | inl lt ↦ absurd (both_ways _ (f.next.none_between e.end e.ends.0.earlier lt)
              (subst (λ m. heads m (packet_of (s e.end)) ≡ true) (sym o.1.mag_is) e.ends.1))
        ] in
        listed s (lists_of c) c.new_certificate.class lines mag number is.new_certificate.few_lines sends tau former d received
        (record { memory = t.memory; permitted = permitted; run = t.run }) e.header o.0 o.1 o.2 (omega (arith, ints)) f (omega (arith, ints))

    one_of : (h : ℤ) (p : Page) → Subpage h p → HasView p d.shown → ShowsOne c.old_pages mag number d ⊎ ShowsOne c.new_pages mag number d
    one_of (pos h) p sub view = inr (record { page = p; subpage = sub; view = view })
    one_of (negsuc h) p sub view = inl (record { page = p; subpage = sub; view = view })

    new_of : (h : ℤ) → pos 0 ≤ℤ h → (p : Page) → Subpage h p → HasView p d.shown → ShowsOne c.new_pages mag number d
    new_of (pos h) le p sub view = record { page = p; subpage = sub; view = view }
    new_of (negsuc h) le p sub view = absurd (omega (arith, ints))

    one : HasEnded s mag number tau now → ShowsOne c.old_pages mag number d ⊎ ShowsOne c.new_pages mag number d
    one e = let r = shown tau (omega (arith, ints)) e in one_of r.place r.page r.subpage r.view

    new : (begin : ℤ) → tau ≤ℤ begin → pos 0 ≤ℤ begin → HasEnded s mag number begin now → ShowsOne c.new_pages mag number d
    new begin le on e =
        let r = shown begin le e in
        let a = e.not_before in
        let b = r.not_before in
        new_of r.place (omega (arith, ints)) r.page r.subpage r.view

pub changes_are_whole : StreamLaws → OwnersAreNear → CyclesRepeat → ListedBlocksAreSeen → ChangesAreWhole
changes_are_whole laws near again listed c is both alike ends mag number olds news = record {
  one = λ tau former d received t e. one laws near again c is both alike ends mag number olds news listed tau former d received t e;
  new = λ tau begin former d received t le on e.
      new laws near again c is both alike ends mag number olds news listed tau former d received t begin le on e;
}
