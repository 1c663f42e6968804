-- The least limit within which each header of a page is followed by the next, found as that of runs of one header.
use Rattle.std.proofs.Common.{◌≡◌, ◌↔◌, ℕ, ◌*◌, ◌≤◌, ℤ, pos, ◌+ℤ◌, ◌<ℤ◌, ◌≤ℤ◌, true, List, [], length, Option, Some, None, refl, sym, subst, arith}
use Rattle.std.proofs.lemmas.Int.{ints}
use Rattle.std.specs.List.{Contains}
use Rattle.ttx_header.specs.Ids.{Id}
use Rattle.ttx_page.specs.Packets.{packet_of}
use Rattle.ttx_page.specs.Pages.{Page}
use Rattle.ttx_page.specs.declared.item.Item.{Item}
use Rattle.ttx_page.specs.declared.item.Item.TheVariants.{Head as TheHead, Row as TheRow, Links as TheLinks}
use Rattle.ttx_page.specs.declared.class.Class.TheVariants.{Clearing}
use Rattle.ttx_page.specs.Streams.{Stream, repeated, turned, heads_page, IsOwned, IsRun}
use Rattle.ttx_page.specs.Laws.{EachSlotTurns}
use Rattle.ttx_witness.specs.runs.SureStarts.{Spread}
use Rattle.ttx_witness.specs.Coverage.{Certificate, limit, IsCovered}
use Rattle.ttx_witness.specs.laws.CycleLaws.{found_starts, found_spread, SureStartsAreFound, LeastLimitIsFound}
use Rattle.ttx_witness.specs.search.Finding.{IsEnough, limit_of}
use Rattle.ttx_witness.proofs.lemmas.laws.HeaderGaps.{turned_back}
use Rattle.ttx_witness.proofs.lemmas.sent.Periods.{owned_before}

-- a header of the page comes in time after the slot
abbrev pub Next : List (List ℕ) → Page → ℕ → ℤ → Type 0
Next cycle p bound tau = (i : ℤ) × (tau ≤ℤ i) × (i <ℤ (tau +ℤ pos bound)) × (heads_page p.id (packet_of (repeated cycle i)) ≡ true)

owner_heads : (s : Stream) (page : Id) (item : Item) (h j : ℤ) → IsOwned s page item h j → heads_page page (packet_of (s h)) ≡ true
owner_heads s page TheHead h j o = subst (λ x. heads_page page (packet_of (s x)) ≡ true) (sym o.0) o.1
owner_heads s page (TheRow r) h j o = o.1
owner_heads s page TheLinks h j o = o.1

-- if any item is covered, the headers come in time
pub next_covered : (cycle : List (List ℕ)) (p : Page) (v : Certificate) (item : Item) → IsCovered cycle p v item → (tau : ℤ) →
    Next cycle p (limit v) tau
next_covered cycle p v item c tau =
    let t = c.in_time tau in
    let before : t.1 ≤ℤ t.0 = owned_before (repeated cycle) p.id item t.1 t.0 t.3 in
    let high : t.0 <ℤ (tau +ℤ pos (limit v)) = t.5.ends.0 in
    (t.1, t.4, omega (arith, ints), owner_heads (repeated cycle) p.id item t.1 t.0 t.3)

module _ (turn : EachSlotTurns) (found : SureStartsAreFound) (law : LeastLimitIsFound) (cycle : List (List ℕ)) (some : 1 ≤ length cycle)
    (p : Page) (lines d : ℕ) where
  -- a certificate that names each header
  abbrev w : Certificate
  w = record { lines = lines; repeat = 1; deadline = d; class = Clearing; starts = λ id item. found_starts cycle id lines item 0 }

  abbrev Head : ℤ → Type 0
  Head i = heads_page p.id (packet_of (repeated cycle i)) ≡ true

  single : (i : ℤ) → Head i → IsRun (repeated cycle) p.id 1 TheHead i []
  single i h = record { count = refl; successive = record { owner = i; owned = (refl, h) } }

  pub named_head : (i : ℤ) → Head i → Contains (found_starts cycle p.id lines TheHead 0) (turned (length cycle) i)
  named_head i h =
      let j = pos (turned (length cycle) i) in
      let here : Head (pos (turned (length cycle) i)) = subst (λ x. heads_page p.id (packet_of x) ≡ true) (sym (turned_back turn cycle some i)) h in
      (found cycle some p.id lines 1 TheHead 0 refl (turned (length cycle) i)).1 (
        (turn (length cycle) i some).inside,
        record
            { rest = []; run = single j here; all_sure = (record { owner = j; owned = (refl, here); sure = tt }, tt) },
      )

  covered_next : ((tau : ℤ) → Next cycle p (d * lines) tau) → IsCovered cycle p w TheHead
  covered_next next = record {
    named = let i = next (pos 0) in (turned (length cycle) i.0, named_head i.0 i.3);
    sure = λ start. (found cycle some p.id lines 1 TheHead 0 refl start).0;
    in_time = λ tau. let i = next tau in
        (i.0, i.0, named_head i.0 i.3, (refl, i.3), i.1, record { rest = []; run = single i.0 i.3; ends = (i.2, tt) });
  }

  pub next_fits : (o : Option Spread) → found_spread cycle p.id lines TheHead 0 ≡ o → ((tau : ℤ) → Next cycle p (d * lines) tau)
      ↔ IsEnough (limit_of (length cycle) o) (d * lines)
  next_fits None e = ((λ next. (law cycle some p w TheHead 0 refl).0 e (covered_next next)), (λ f. absurd f))
  next_fits (Some s) e =
      let l = (law cycle some p w TheHead 0 refl).1 s e in
      ((λ next. l.0 (covered_next next)), (λ f. next_covered cycle p w TheHead (l.1 refl f)))
