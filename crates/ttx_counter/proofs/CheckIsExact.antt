-- A counter-run is checked exactly.
use Rattle.std.proofs.Common.{◌≡◌, ◌↔◌, ℕ, suc, ◌<◌, ℤ, pos, ◌+ℤ◌, Bool, true, false, zero, List, [], ◌∷◌, length, get_or, map, sym, ap, ◌∙◌, subst}
use Rattle.std.proofs.Common.{arith, Some, IfOk, Result, Ok, Err}
use Rattle.ttx_page.specs.declared.page.Page.{Page as PageValue}
use Rattle.ttx_page.specs.Views.{page_of}
use Rattle.std.specs.Prelude.{IsPermutation, slice_get}
use Rattle.std.specs.List.{All}
use Rattle.ttx_code.specs.Laws.{EachByteIsNearItself}
use Rattle.ttx_packet.specs.Slots.{IsSlot, is_empty}
use Rattle.ttx_cycle.specs.Files.{IsCycle}
use Rattle.ttx_page.specs.Pages.{Page}
use Rattle.ttx_page.specs.Memories.{IsMemory}
use Rattle.ttx_page.specs.Laws.{EachSlotTurns}
use Rattle.ttx_page.specs.declared.class.Class.TheVariants.{Any}
use Rattle.ttx_page.specs.Receivers.{scripted}
use Rattle.ttx_page.specs.Streams.{repeated}
use Rattle.ttx_certify.specs.Seen.{HasView}
use Rattle.ttx_counter.specs.Counters.{CounterRun, IsHit, selection_for, IsCounterRun}
use Rattle.ttx_counter.specs.Keys.{hit_key, key_at, slot_in, IsKey, AreHitOnce}
use Rattle.ttx_counter.specs.Rule.{KeepsRule}
use Rattle.ttx_counter.specs.Hearing.{IsHitBy}
use Rattle.ttx_counter.specs.Checking.{IsInRange, IsJudgedRun, IsJudgedWithin, IsRefuting}
use Rattle.ttx_counter.proofs.SortedHits.{at_hit, from_key, slot_of_key, keys_are, apart_to, apart_back, hits_to, hits_back}
use Rattle.ttx_counter.proofs.HitsKeepTheRule as E

pub slots_are : EachSlotTurns → (cycle : List (List ℕ)) → IsCycle cycle → (j : ℤ) → IsSlot (repeated cycle j)
slots_are turns cycle is j = let t = turns (length cycle) j is.some in is.each _ [] t.inside

module _ (itself : EachByteIsNearItself) (turns : EachSlotTurns) (cycle : List (List ℕ)) (is : IsCycle cycle) (p : Page)
    (c : CounterRun) (keys : List ℕ)
    (all : All (IsHit (repeated cycle) c.start c.slots) c.hits) (same : IsPermutation (map hit_key c.hits) keys) where
  abbrev each : (i : ℕ) → i < length keys → IsKey (key_at keys i)
  each = keys_are (repeated cycle) c.start c.slots c.hits keys all same

  full : (i : ℕ) → i < length keys → is_empty (repeated cycle (pos c.start +ℤ pos (slot_in (key_at keys i)))) ≡ false
  full i lt =
      let w = from_key (repeated cycle) c.start c.slots c.hits keys all same i lt in
      let h = at_hit (repeated cycle) c.start c.slots c.hits keys all same w.0 w.1 in
      let e : w.0.index ≡ slot_in (key_at keys i) = sym (slot_of_key (repeated cycle) c.start c.slots w.0 h) ∙ ap slot_in w.2 in
      subst (λ n. is_empty (repeated cycle (pos c.start +ℤ pos n)) ≡ false) e h.sent

  -- the parts that a refuting run has
  pub refuting_apart : IsRefuting cycle p c → AreHitOnce keys
  refuting_apart r = apart_to (repeated cycle) c.start c.slots c.hits keys all same r.once

  heard : (r : IsRefuting cycle p c) → (i : ℕ) → i < c.slots → IsHitBy keys i (repeated cycle (pos c.start +ℤ pos i)) (get_or r.received i [])
  heard r i lt = hits_to (repeated cycle) c.start c.slots c.hits keys all same i _ _ (r.with_hits.each i lt)

  refuting_keeps : IsRefuting cycle p c → KeepsRule (repeated cycle) p.id c.start c.slots c.repeat keys
  refuting_keeps r = E.keeps (repeated cycle) (slots_are turns cycle is) p.id c.start c.slots c.repeat keys each r.received
      r.with_hits.count (heard r) r.permitted

  -- if they hold, the judgment decides
  decided : (wrong : Bool) → AreHitOnce keys → KeepsRule (repeated cycle) p.id c.start c.slots c.repeat keys →
      IsJudgedRun (repeated cycle) keys p c wrong → (wrong ≡ true) ↔ IsRefuting cycle p c
  decided wrong apart rule j = (
    (λ w. record {
      once = apart_back (repeated cycle) c.start c.slots c.hits keys all same apart;
      received = j.received;
      with_hits = record { count = j.count; each = λ n lt. hits_back (repeated cycle) c.start c.slots c.hits keys all same n _ _ (j.each n lt) };
      permitted = E.received (repeated cycle) (slots_are turns cycle is) p.id c.start c.slots c.repeat keys each itself full j.received
          j.count j.each rule;
      wrong = j.told.0 w;
    }),
    (λ r. j.told.1 (λ v. r.wrong (subst (λ rs. HasView p (scripted Any c.lines (selection_for c.any_sub p.id) c.choices c.former rs))
        (E.only_list (repeated cycle) (slots_are turns cycle is) p.id c.start c.slots c.repeat keys each j.received r.received j.count
        r.with_hits.count j.each (heard r)) v))),
  )

  -- if one of them does not hold, nothing is refuted
  pub decided_within : (wrong : Bool) → AreHitOnce keys → IsJudgedWithin (repeated cycle) keys p c wrong → (wrong ≡ true) ↔ IsRefuting cycle p c
  decided_within wrong apart j = (
    (λ w. let rule = j.keeps w in (decided wrong apart rule (j.judged rule)).0 w),
    (λ r. let rule = refuting_keeps r in (decided wrong apart rule (j.judged rule)).1 r),
  )

-- the whole
pub whole : (cycle : List (List ℕ)) (pages : List Page) (p : Page) (c : CounterRun) → slice_get pages c.page ≡ Some p →
    IsMemory c.former → IsInRange cycle pages p c → IsRefuting cycle p c → IsCounterRun cycle pages c
whole cycle pages p c here former r w = record {
  page = p;
  here = here;
  fits = r.fits;
  numbers = r.numbers;
  lasts = r.lasts;
  hits = record { each = r.each; once = w.once };
  former = former;
  received = w.received;
  with_hits = w.with_hits;
  permitted = w.permitted;
  wrong = w.wrong;
}

pub same_page : (pages : List Page) (n : ℕ) (p q : Page) → slice_get pages n ≡ Some p → slice_get pages n ≡ Some q → p ≡ q
same_page pages n p q a b = cc

pub refuting : (cycle : List (List ℕ)) (pages : List Page) (p : Page) (c : CounterRun) → slice_get pages c.page ≡ Some p →
    IsCounterRun cycle pages c → IsRefuting cycle p c
refuting cycle pages p c here r = subst (λ q. IsRefuting cycle q c) (same_page pages c.page r.page p r.here here)
    (record { once = r.hits.once; received = r.received; with_hits = r.with_hits; permitted = r.permitted; wrong = r.wrong })

-- a page of the program, in its list
pub page_here : (pages : List PageValue) (i : ℕ) (x : PageValue) → i < length pages → x ≡ get_or pages i x →
    slice_get (map page_of pages) i ≡ Some (page_of x)
page_here [] i x lt e = absurd (omega arith)
page_here (y ∷ pages) zero x lt e = ap (λ z. Some (page_of z)) (sym e)
page_here (y ∷ pages) (suc i) x lt e = page_here pages i x (omega arith) e

pub on_ok : {A E : Type 0} (P Q : A → Type 0) (r : Result A E) → ((a : A) → P a → Q a) → IfOk r P → IfOk r Q
on_ok P Q (Ok a) f h = f a h
on_ok P Q (Err e) f h = tt
