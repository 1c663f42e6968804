-- Whether each header of a page is followed by the next in time.
use Rattle.std.proofs.Common.{◌≡◌, ℕ, ◌<◌, ◌≤◌, ℤ, pos, ◌+ℤ◌, ◌-ℤ◌, ◌<ℤ◌, ◌≤ℤ◌, Bool, true, false, if◌then◌else◌, int_lt, unsigned_abs, List, [], ◌∷◌}
use Rattle.std.proofs.Common.{length, slice_index_or, Option, Some, None, refl, sym, ap, ◌∙◌, subst, inl, inr, arith}
use Rattle.std.proofs.lemmas.Int.{ints}
use Rattle.std.proofs.lemmas.Bool.{both_ways}
use Rattle.ttx_page.proofs.SlotDistances.{cases_ltz}
use Rattle.ttx_page.specs.Packets.{packet_of}
use Rattle.ttx_page.specs.Pages.{Page}
use Rattle.ttx_page.specs.declared.item.Item.TheVariants.{Head as TheHead}
use Rattle.ttx_page.specs.Streams.{repeated, turned, heads_page, IsOwned, IsSure}
use Rattle.ttx_page.specs.Steady.{HasHeader}
use Rattle.ttx_page.specs.Laws.{EachSlotTurns}
use Rattle.ttx_witness.specs.runs.Transmissions.{Transmission}
use Rattle.ttx_witness.specs.runs.Repeating.{AreSent, IsSentAt, Tells}
use Rattle.ttx_witness.specs.sent.ItemTransmissions.{sent_in}
use Rattle.ttx_witness.specs.Coverage.{Certificate, limit}
use Rattle.ttx_witness.specs.laws.JudgingLaws.{late_before, late_header, IsHeaderAnswer, HeadersAreJudged}
use Rattle.ttx_witness.proofs.lemmas.WholeNumbers.{is_lt, abs_is}
use Rattle.ttx_witness.proofs.lemmas.sent.CycleTransmissions.{sent_told, period_of}

not_lt : (a b : ℤ) → int_lt a b ≡ false → b ≤ℤ a
not_lt a b e = omega (arith, ints)

is_false : (b : Bool) → (b ≡ true → ⊥) → b ≡ false
is_false true h = absurd (h refl)
is_false false h = refl

none_is : (b : Bool) (x : ℕ) (o : Option ℕ) → (if b then Some x else o) ≡ None → (b ≡ false) × (o ≡ None)
none_is true x o e = cc
none_is false x o e = (refl, e)

module _ (cycle : List (List ℕ)) (p : Page) (lines bound : ℕ) where
  -- slot x is a header of the page
  abbrev P : ℤ → Type 0
  P x = heads_page p.id (packet_of (repeated cycle x)) ≡ true

  abbrev Are : ℤ → List Transmission → Type 0
  Are low ts = AreSent (IsOwned (repeated cycle) p.id TheHead) (IsSure (repeated cycle) lines p.id.mag TheHead) low (pos (length cycle)) ts

  sent : (x : ℤ) → P x → IsSentAt (IsOwned (repeated cycle) p.id TheHead) x
  sent x h = record { owner = x; owned = (refl, h) }

  header_of : (t : Transmission) → Tells (IsOwned (repeated cycle) p.id TheHead) (IsSure (repeated cycle) lines p.id.mag TheHead) t → P t.slot
  header_of t a = a.owned.1

  -- if no header is late, one comes in time after each slot from one header to `end`
  abbrev Next : ℤ → Type 0
  Next x = (i : ℤ) × (x ≤ℤ i) × (i <ℤ (x +ℤ pos bound)) × P i

  next_from : (end : ℤ) → P end → (t : Transmission) (us : List Transmission) → Are (t.slot +ℤ pos 1) us → late_before bound end (t ∷ us) ≡ None →
      (x : ℤ) → t.slot <ℤ x → x ≤ℤ end → Next x
  next_from end here t [] a e x low high =
      let n : end ≤ℤ (t.slot +ℤ pos bound) = not_lt (t.slot +ℤ pos bound) end
      (none_is (int_lt (t.slot +ℤ pos bound) end) (unsigned_abs t.slot) None e).0 in
      (end, high, omega (arith, ints), here)
  next_from end here t (u ∷ us) a e x low high =
      let n = none_is (int_lt (t.slot +ℤ pos bound) u.slot) (unsigned_abs t.slot) (late_before bound end (u ∷ us)) e in
      let gap : u.slot ≤ℤ (t.slot +ℤ pos bound) = not_lt (t.slot +ℤ pos bound) u.slot n.0 in
      elim (cases_ltz u.slot x) as (λ _. Next x)
      [ inl lt ↦ next_from end here u us a.4 n.1 x lt high | inr ge ↦ (u.slot, ge, omega (arith, ints), header_of u a.0) ]

  -- a late header, before which each header from slot a on is followed in time
  record IsGap (a : ℤ) (h : ℕ) : Type 0 where
    within : pos h <ℤ pos (length cycle)
    is_header : P (pos h)
    late : (x : ℤ) → pos h <ℤ x → x ≤ℤ (pos h +ℤ pos bound) → P x → ⊥
    before : (g : ℤ) → a ≤ℤ g → g <ℤ pos h → P g → (x : ℤ) × (g <ℤ x) × (x ≤ℤ (g +ℤ pos bound)) × P x

  gap_at : (a : ℤ) → pos 0 ≤ℤ a → a <ℤ pos (length cycle) → P a → ((x : ℤ) → a <ℤ x → x ≤ℤ (a +ℤ pos bound) → P x → ⊥) → IsGap a (unsigned_abs a)
  gap_at a low high here late =
      let e = abs_is a low in
      record {
        within = subst (λ z. z <ℤ pos (length cycle)) (sym e) high;
        is_header = subst P (sym e) here;
        late = subst (λ z. (x : ℤ) → z <ℤ x → x ≤ℤ (z +ℤ pos bound) → P x → ⊥) (sym e) late;
        before = λ g le lt _. absurd (omega (arith, ints, e));
      }

  module _ (some : 1 ≤ length cycle) (first : ℤ) (none_first : (x : ℤ) → pos 0 ≤ℤ x → x <ℤ first → P x → ⊥) where
    -- there is no header between the end of the period and the first header of the next period
    none_after : (x : ℤ) → pos (length cycle) ≤ℤ x → x <ℤ (first +ℤ pos (length cycle)) → P x → ⊥
    none_after x low high h =
        let back : (x -ℤ pos (length cycle)) +ℤ pos (length cycle) ≡ x = omega (arith, ints) in
        let same : repeated cycle x ≡ repeated cycle (x -ℤ pos (length cycle)) = sym (ap (repeated cycle) back)
        ∙ period_of cycle (x -ℤ pos (length cycle)) in
        none_first (x -ℤ pos (length cycle)) (omega (arith, ints)) (omega (arith, ints)) (subst (λ z. heads_page p.id (packet_of z) ≡ true) same h)

    gap_from : (t : Transmission) (us : List Transmission) → pos 0 ≤ℤ t.slot → t.slot <ℤ pos (length cycle) → P t.slot →
        Are (t.slot +ℤ pos 1) us → (h : ℕ) →
        late_before bound (first +ℤ pos (length cycle)) (t ∷ us) ≡ Some h → IsGap t.slot h
    gap_from t [] low high here a h e = go (int_lt (t.slot +ℤ pos bound) (first +ℤ pos (length cycle))) refl e
      where
        go : (b : Bool) → int_lt (t.slot +ℤ pos bound) (first +ℤ pos (length cycle)) ≡ b →
            (if b then Some (unsigned_abs t.slot) else None) ≡ Some h → IsGap t.slot h
        go false q e = cc
        go true q e =
            let same : unsigned_abs t.slot ≡ h = cc in
            let lt : (t.slot +ℤ pos bound) <ℤ (first +ℤ pos (length cycle)) = is_lt (t.slot +ℤ pos bound) (first +ℤ pos (length cycle)) q in
            subst (IsGap t.slot) same (gap_at t.slot low high here (λ x above most hx. elim (cases_ltz x (pos (length cycle))) as (λ _. ⊥) [
              | inl less ↦ a x (omega (arith, ints)) less (sent x hx)
              | inr more ↦ none_after x more (omega (arith, ints)) hx
            ]))
    gap_from t (u ∷ us) low high here a h e = go (int_lt (t.slot +ℤ pos bound) u.slot) refl e
        (λ f. gap_from u us (omega (arith, ints, a.1)) a.2 (header_of u a.0) a.4 h f)
      where
        on : IsGap u.slot h → u.slot ≤ℤ (t.slot +ℤ pos bound) → IsGap t.slot h
        on g near = record {
          within = g.within;
          is_header = g.is_header;
          late = g.late;
          before = λ x le lt hx. elim (cases_ltz x u.slot) as (λ _. (y : ℤ) × (x <ℤ y) × (y ≤ℤ (x +ℤ pos bound)) × P y) [
            | inl less ↦ elim (cases_ltz t.slot x) as (λ _. (y : ℤ) × (x <ℤ y) × (y ≤ℤ (x +ℤ pos bound)) × P y) [
              | inl between ↦ absurd (a.3 x (omega (arith, ints)) less (sent x hx))
              | inr back ↦ (u.slot, less, omega (arith, ints), header_of u a.0)
            ]
            | inr more ↦ g.before x more lt hx
          ];
        }

        go : (b : Bool) → int_lt (t.slot +ℤ pos bound) u.slot ≡ b →
            (if b then Some (unsigned_abs t.slot) else late_before bound (first +ℤ pos (length cycle)) (u ∷ us)) ≡ Some h →
            (late_before bound (first +ℤ pos (length cycle)) (u ∷ us) ≡ Some h → IsGap u.slot h) → IsGap t.slot h
        go true q e again =
            let same : unsigned_abs t.slot ≡ h = cc in
            let lt : (t.slot +ℤ pos bound) <ℤ u.slot = is_lt (t.slot +ℤ pos bound) u.slot q in
            subst (IsGap t.slot) same (gap_at t.slot low high here (λ x above most hx. a.3 x (omega (arith, ints)) (omega (arith, ints)) (sent x hx)))
        go false q e again = on (again e) (not_lt (t.slot +ℤ pos bound) u.slot q)

-- a slot of the stream has its place in the first period
pub turned_back : EachSlotTurns → (cycle : List (List ℕ)) → 1 ≤ length cycle → (j : ℤ) → repeated cycle (pos (turned (length cycle) j))
    ≡ repeated cycle j
turned_back turn cycle some j =
    let t = turn (length cycle) j some in
    ap (λ x. slice_index_or cycle x []) (sym (t.same (pos (turned (length cycle) j))) ∙ ap (turned (length cycle)) (sym t.place))

module _ (turn : EachSlotTurns) (cycle : List (List ℕ)) (some : 1 ≤ length cycle) (p : Page) (w : Certificate) where
  abbrev Head : ℤ → Type 0
  Head x = heads_page p.id (packet_of (repeated cycle x)) ≡ true

  -- a header comes in time from each tuning slot on
  in_time : (t : Transmission) → Head t.slot → ((x : ℤ) → t.slot <ℤ x → x ≤ℤ (t.slot +ℤ pos (length cycle)) → Next cycle p w.lines (limit w) x) →
      (tau : ℤ) → Next cycle p w.lines (limit w) tau
  in_time t here near tau =
      let n = length cycle in
      let d = tau -ℤ (t.slot +ℤ pos 1) in
      let k = turn n d some in
      let x = (t.slot +ℤ pos 1) +ℤ pos (turned n d) in
      let inside : turned n d < n = k.inside in
      let place : d ≡ pos (turned n d) +ℤ k.by = k.place in
      let i = near x (omega (arith, ints)) (omega (arith, ints)) in
      let low : x ≤ℤ i.0 = i.1 in
      let high : i.0 <ℤ (x +ℤ pos (limit w)) = i.2 in
      let same : repeated cycle (i.0 +ℤ k.by) ≡ repeated cycle i.0 = ap (λ z. slice_index_or cycle z []) (k.same i.0) in
      (i.0 +ℤ k.by, omega (arith, ints), omega (arith, ints), subst (λ z. heads_page p.id (packet_of z) ≡ true) (sym same) i.3)

  -- no header is late if one comes in time after each tuning slot
  none_late : ((tau : ℤ) → Next cycle p w.lines (limit w) tau) → (h : ℕ) →
      ((i : ℤ) → pos h <ℤ i → i ≤ℤ (pos h +ℤ pos (limit w)) → heads_page p.id (packet_of (repeated cycle i)) ≡ false) → ⊥
  none_late next h late =
      let i = next (pos h +ℤ pos 1) in
      let low : (pos h +ℤ pos 1) ≤ℤ i.0 = i.1 in
      let high : i.0 <ℤ ((pos h +ℤ pos 1) +ℤ pos (limit w)) = i.2 in
      both_ways _ (late i.0 (omega (arith, ints)) (omega (arith, ints))) i.3

  judged : HasHeader (repeated cycle) p.id → (ts : List Transmission) → Are cycle p w.lines (limit w) (pos 0) ts → (o : Option ℕ) →
      late_header (limit w) (length cycle) ts ≡ o → IsHeaderAnswer cycle p w o
  unfolding late_header
  judged has [] a o e =
      let inside : turned (length cycle) has.slot < length cycle = (turn (length cycle) has.slot some).inside in
      absurd (a (pos (turned (length cycle) has.slot)) (omega (arith, ints)) (omega (arith, ints))
      (sent cycle p w.lines (limit w) (pos (turned (length cycle) has.slot))
      (subst (λ z. heads_page p.id (packet_of z) ≡ true) (sym (turned_back turn cycle some has.slot)) has.is_header)))
  judged has (t ∷ ts) a None e =
      let here : Head t.slot = header_of cycle p w.lines (limit w) t a.0 in
      let again : Head (t.slot +ℤ pos (length cycle)) = subst (λ z. heads_page p.id (packet_of z) ≡ true) (sym (period_of cycle t.slot)) here in
      let next = in_time t here (next_from cycle p w.lines (limit w) (t.slot +ℤ pos (length cycle)) again t ts a.4 e) in
      (next, (λ item header l. none_late next header l.late))
  judged has (t ∷ ts) a (Some h) e = λ item need clearing blank none.
      let g = gap_from cycle p w.lines (limit w) some t.slot
      (λ x low lt hx. a.3 x low lt (sent cycle p w.lines (limit w) x hx)) t ts a.1 a.2
      (header_of cycle p w.lines (limit w) t a.0) a.4 h e in
      let within : pos h <ℤ pos (length cycle) = g.within in (
        record {
          needed = need;
          clearing = clearing;
          blank = blank;
          none = none;
          within = omega (arith, ints);
          is_header = g.is_header;
          late = λ i low high. is_false _ (λ hx. g.late i low high hx);
        },
        (λ m less l. elim (cases_ltz (pos m) t.slot) as (λ _. ⊥) [
          | inl early ↦ a.3 (pos m) (omega (arith, ints)) early (sent cycle p w.lines (limit w) (pos m) l.is_header)
          | inr late ↦
              let b = g.before (pos m) late (omega (arith, ints)) l.is_header in
              both_ways _ (l.late b.0 b.1 b.2) b.3
        ]),
      )

pub headers_are_judged : EachSlotTurns → HeadersAreJudged
headers_are_judged turn cycle some p w has =
    judged turn cycle some p w has (sent_in cycle p.id w.lines TheHead) (sent_told cycle some p.id w.lines TheHead)
    (late_header (limit w) (length cycle) (sent_in cycle p.id w.lines TheHead)) refl
