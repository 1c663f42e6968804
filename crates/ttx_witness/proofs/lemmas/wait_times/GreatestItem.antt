-- The deadline of a page is the greatest of its items' deadlines.
use Rattle.std.proofs.Common.{◌≡◌, ◌↔◌, ℕ, zero, suc, ◌<◌, ◌≤◌, true, List, [], ◌∷◌, ◌++◌, if◌then◌else◌, length, map, slice_get, Some, None, refl}
use Rattle.std.proofs.Common.{sym, ap, ◌∙◌, subst, inl, inr, arith}
use Rattle.std.specs.List.{AllByRecursion}
use Rattle.std.proofs.lemmas.Bool.{cases_lt}
use Rattle.std.proofs.lemmas.Option.{slice_get_within}
use Rattle.ttx_page.specs.Laws.{EachSlotTurns}
use Rattle.ttx_page.specs.Pages.{Page, IsBlank, is_blank, needed}
use Rattle.ttx_page.specs.declared.item.Item.{Item}
use Rattle.ttx_page.specs.declared.class.Class.{Class}
use Rattle.ttx_witness.specs.sent.Collected.{IsItem, item_number}
use Rattle.ttx_witness.specs.laws.CycleLaws.{SureStartsAreFound, LeastLimitIsFound}
use Rattle.ttx_witness.specs.wait_times.ItemWaits.{item_at, seen_below, least_of, IsItemWait, AreItemsTold, IsUpTo, IsGreatest}
use Rattle.ttx_witness.specs.wait_times.PageWaits.{IsLeast, CanShow, CanAccept, fields_told, IsWait}
use Rattle.ttx_witness.specs.declared.faults.reason.Reason.{Reason}
use Rattle.ttx_witness.specs.declared.wait_times.wait.ItemWait.{ItemWait}
use Rattle.ttx_witness.specs.declared.wait_times.wait.OwnWait.{OwnWait}
use Rattle.ttx_witness.specs.declared.wait_times.wait.OwnWait.TheVariants.{Least, Never}
use Rattle.ttx_witness.specs.declared.wait_times.wait.Wait.{Wait}
use Rattle.ttx_witness.specs.declared.wait_times.wait.Wait.TheVariants.{Fields, Faulty, Unsure}
use Rattle.ttx_witness.proofs.lemmas.search.LeastDeadline.{item_needed, due_needed}
use Rattle.ttx_witness.proofs.lemmas.GrownLists.{before_here, last_here}
use Rattle.ttx_witness.proofs.lemmas.wait_times.ItemByItem.{item_is}
use Rattle.ttx_witness.proofs.lemmas.wait_times.PageDeadline.{accepted_shows, no_start_never}
use Rattle.ttx_witness.proofs.lemmas.sent.ItemPlaces.{item_small}

record IsIn (xs : List Item) (x : Item) : Type 0 where
  index : ℕ
  here : slice_get xs index ≡ Some x

-- an item that a viewer sees is among them
seen_in : (p : Page) (item : Item) → IsItem item → needed p item ≡ true → (n : ℕ) → item_number item < n → IsIn (seen_below p n) item
unfolding seen_below
seen_in p item is seen zero lt = absurd (omega arith)
seen_in p item is seen (suc n) lt = elim (cases_lt (item_number item) n) as
    (λ _. IsIn (seen_below p n ++ (if needed p (item_at n) then item_at n ∷ [] else [])) item) [
      | inl low ↦
          let i = seen_in p item is seen n low in
          let more = if needed p (item_at n) then item_at n ∷ [] else [] in
          record {
            index = i.index;
            here = before_here (seen_below p n) more i.index
                (slice_get_within (seen_below p n) i.index item i.here) ∙ i.here;
          }
      | inr high ↦
          let number : item_number item ≡ n = omega arith in
          let same : item_at n ≡ item = ap item_at (sym number) ∙ item_is item is in
          let all : (seen_below p n ++ (if needed p (item_at n) then item_at n ∷ [] else [])) ≡ seen_below p n ++ item ∷ [] =
          ap (λ i. seen_below p n ++ (if needed p i then i ∷ [] else [])) same ∙ ap (λ b. seen_below p n ++ (if b then item ∷ [] else [])) seen in
          record { index = length (seen_below p n); here = ap (λ xs. slice_get xs (length (seen_below p n))) all ∙ last_here (seen_below p n) item }
    ]

record IsOne (P : ItemWait → Type 0) (told : List ItemWait) (index : ℕ) (item : Item) : Type 0 where
  one : ItemWait
  here : slice_get told index ≡ Some one
  own : one.item ≡ item
  is : P one

-- the wait for this item
one_of : (P : ItemWait → Type 0) (told : List ItemWait) (index : ℕ) (item : Item) → AllByRecursion P told →
    slice_get (map (λ one. one.item) told) index ≡ Some item → IsOne P told index item
one_of P [] index item all e = absurd (let h : None ≡ Some item = e in cc)
one_of P (t ∷ told) zero item all e = record { one = t; here = refl; own = (let h : t.item ≡ item = cc in h); is = all.0 }
one_of P (t ∷ told) (suc index) item all e = let o = one_of P told index item all.1 e in record { one = o.one; here = o.here; own = o.own; is = o.is }

all_map : (P Q : ItemWait → Type 0) → ((one : ItemWait) → P one → Q one) → (told : List ItemWait) → AllByRecursion P told → AllByRecursion Q told
all_map P Q f [] all = tt
all_map P Q f (t ∷ told) all = (f t all.0, all_map P Q f told all.1)

module _ (turn : EachSlotTurns) (found : SureStartsAreFound) (law : LeastLimitIsFound) (cycle : List (List ℕ)) (some : 1 ≤ length cycle)
    (most : length cycle ≤ 65536) (p : Page)
    (tested : (item : Item) → needed p item ≡ true → is_blank p item ≡ true ↔ IsBlank p item) (class : Class) (repeat lines : ℕ)
    (some_lines : 1 ≤ lines) (few_lines : lines ≤ 32) (repeats : 1 ≤ repeat) (few_repeats : repeat ≤ 8) (pages : List Page)
    (told : List ItemWait) (are : AreItemsTold cycle p class repeat lines 26 told) where
  abbrev Own : ItemWait → Type 0
  Own one = IsItemWait cycle p class repeat lines one.item one.wait

  told_one : (item : Item) → needed p item ≡ true → (i : IsIn (seen_below p 26) item) × IsOne Own told i.index item
  told_one item seen =
      let i = seen_in p item (item_needed p item seen) seen 26 (item_small item (item_needed p item seen)) in
      (i, one_of Own told i.index item are.each (ap (λ xs. slice_get xs i.index) are.items ∙ i.here))

  up_to : (d : ℕ) → CanAccept cycle pages p class repeat lines d → (one : ItemWait) → Own one → IsUpTo d one.wait
  up_to d c one o = go one.wait o.least
    where
      shows : CanShow cycle p class repeat lines one.item d
      shows = accepted_shows cycle p class repeat lines pages d c one.item o.seen

      go : (wait : OwnWait) → IsLeast (CanShow cycle p class repeat lines one.item) (least_of wait) → IsUpTo d wait
      go (Least own) l = l.1 d shows
      go (Never losses) l = absurd (l d shows)

  -- the item that needs the most fields
  most_of : (d : ℕ) (wait : OwnWait) (item : Item) → IsLeast (CanShow cycle p class repeat lines item) (least_of wait) →
      ((e : ℕ) → CanShow cycle p class repeat lines item e → d ≤ e) → IsUpTo d wait →
      least_of wait ≡ Some d
  most_of d (Least own) item l needs few = let le = needs own l.0 in let same : own ≡ d = omega arith in ap Some same
  most_of d (Never losses) item l needs few = absurd few

  none_of : (wait : OwnWait) (item : Item) → IsLeast (CanShow cycle p class repeat lines item) (least_of wait) →
      IsLeast (CanShow cycle p class repeat lines item) None → least_of wait ≡ None
  none_of (Least own) item l never = absurd (never own l.0)
  none_of (Never losses) item l never = refl

  pub page_greatest : (wait : Wait) → IsWait cycle pages p class repeat lines wait → ((reason : Reason) → wait ≡ Faulty reason → ⊥) →
      IsGreatest told (fields_told wait)
  page_greatest (Fields d item) w right =
      let n = w.reason.here in
      let t = told_one item n.seen in
      let o = t.1 in
      let least = subst (λ i. IsLeast (CanShow cycle p class repeat lines i) (least_of o.one.wait)) o.own o.is.least in (
        record { index = t.0.index; one = o.one; here = o.here; is = most_of d o.one.wait item least n.least (up_to d w.least.0 o.one o.is) },
        all_map Own (λ one. IsUpTo d one.wait) (up_to d w.least.0) told are.each,
      )
  page_greatest (Faulty reason) w right = absurd (right reason refl)
  page_greatest (Unsure item losses) w right =
      let n = w.reason.1.here in
      let t = told_one item (due_needed class p item n.due) in
      let o = t.1 in
      let least = subst (λ i. IsLeast (CanShow cycle p class repeat lines i) (least_of o.one.wait)) o.own o.is.least in
      record {
        index = t.0.index;
        one = o.one;
        here = o.here;
        is = none_of o.one.wait item least
            (no_start_never turn found law cycle some most p tested class repeat lines some_lines few_lines repeats few_repeats item
            n);
      }
