-- What comes between two slots of a stream is shown soon after the second slot.
use Rattle.std.proofs.Common.{◌≡◌, ◌⊎◌, ℕ, zero, suc, ◌+◌, ◌<◌, ◌≤◌, ℤ, pos, ◌+ℤ◌, ◌<ℤ◌, ◌≤ℤ◌, true, false, List, [], ◌∷◌, ◌++◌, length, get_or, take}
use Rattle.std.proofs.Common.{drop, refl, sym, ap, ◌∙◌, subst, inl, inr, arith, length-drop}
use Rattle.std.proofs.lemmas.Int.{ints}
use Rattle.std.proofs.lemmas.List.{length-take-le, take_all, take_more as one_more, get_or-drop}
use Rattle.std.proofs.lemmas.Grind.{common_steps}
use Rattle.std.proofs.lemmas.Bool.{and_left, and_right, and_parts, both_ways, cases_Bool}
use Rattle.ttx_page.proofs.SlotDistances.{cases_ltz}
use Rattle.ttx_page.proofs.Owners.{page_heads}
use Rattle.ttx_packet.specs.Laws.{KindIsKept}
use Rattle.ttx_header.specs.Laws.{HeaderIsKept}
use Rattle.ttx_header.specs.Ids.{Id}
use Rattle.ttx_page.specs.Packets.{Packet, packet_of}
use Rattle.ttx_page.specs.Pages.{Page, IsPage, matches, needed}
use Rattle.ttx_page.specs.declared.selection.Selection.{Selection}
use Rattle.ttx_page.specs.declared.item.Item.{Item}
use Rattle.ttx_page.specs.declared.item.Item.TheVariants.{Head as TheHead, Row as TheRow, Links as TheLinks}
use Rattle.ttx_page.specs.declared.class.Class.{Class}
use Rattle.ttx_page.specs.Memories.{Memory, IsFormer}
use Rattle.ttx_page.specs.Receivers.{Step, Run}
use Rattle.ttx_page.specs.Streams.{Stream, heads, heads_page, heads_matched, IsOwned}
use Rattle.ttx_page.specs.Receptions.{Received}
use Rattle.ttx_page.specs.Laws.{RunsGoOn}
use Rattle.ttx_receiver.specs.Laws.{IsSteadyFrom, HasHeaderBetween, IsBrought}
use Rattle.ttx_render.specs.Laws.{ContentsDecide}
use Rattle.ttx_certify.specs.Seen.{HasView}
use Rattle.ttx_certify.specs.Laws.{RunsAreSeen}
use Rattle.ttx_certify.proofs.LaterReceptions.{received_later}
use Rattle.ttx_late.specs.LateReceivers.{LateMemory, LateStep, LateRun, heads_number, must_show}
use Rattle.ttx_late.specs.Laws.{IsFollowedFrom, RunsAreShown}
use Rattle.ttx_late.proofs.KeptSlots.{SameTests, same_tests}
use Rattle.ttx_late.proofs.StoringSteps.{Same, has_view_same}
use Rattle.ttx_late.proofs.GatheredMemories.{matched_number, step_storing}
use Rattle.ttx_late.proofs.UnderHeaders.{IsUnder, none_more, not_earlier, under_own, under_more, no_header, not_number, stores}
use Rattle.ttx_late.proofs.ShownIsGathered.{run_keeps, shown_is, begins, taken, settles}
use Rattle.ttx_late.proofs.FollowedReceptions.{received_before}

-- a header of a page is matched by each selection that matches the page
pub page_matched : (sel : Selection) (page : Id) → matches sel page ≡ true → (pkt : Packet) → heads_page page pkt ≡ true →
    heads_matched sel pkt ≡ true
page_matched sel page fits pkt h = grind (arith, common_steps)

take_nothing : (A : Type 0) (k : ℕ) → take {A = A} k [] ≡ []
take_nothing A zero = refl
take_nothing A (suc k) = refl

pub take_more : (n k : ℕ) (xs : List (List ℕ)) → take n xs ++ take k (drop n xs) ≡ take (n + k) xs
take_more zero k xs = let e : k ≡ 0 + k = omega arith in ap (λ m. take m xs) e
take_more (suc n) k [] = take_nothing (List ℕ) k ∙ sym (take_nothing (List ℕ) (suc n + k))
take_more (suc n) k (x ∷ xs) = let e : suc (n + k) ≡ suc n + k = omega arith in ap (λ ys. x ∷ ys) (take_more n k xs) ∙ ap (λ m. take m (x ∷ xs)) e

-- an owner is a header of the page
pub owner_heads : (s : Stream) (page : Id) (item : Item) (h j : ℤ) → IsOwned s page item h j → (h ≤ℤ j) × (heads_page page (packet_of (s h)) ≡ true)
owner_heads s page TheHead h j o = let e = o.0 in (omega (arith, ints), subst (λ z. heads_page page (packet_of (s z)) ≡ true) (sym o.0) o.1)
owner_heads s page (TheRow r) h j o = let e = o.0.earlier in (omega (arith, ints), o.1)
owner_heads s page TheLinks h j o = let e = o.0.earlier in (omega (arith, ints), o.1)

-- an item comes under a header of the page
brought_header : (s : Stream) (p : Page) (class : Class) (lines repeat : ℕ) (item : Item) (begin end : ℤ) →
    IsBrought s p class lines repeat item begin end → HasHeaderBetween s p begin end
brought_header s p class lines repeat item begin end (inl sent) =
    let o = owner_heads s p.id item sent.owner sent.first sent.owned in
    let first = o.0 in
    let low = sent.ends.0 in
    record { slot = sent.owner; not_before = sent.not_before; before = omega (arith, ints); is_header = o.1 }
brought_header s p class lines repeat item begin end (inr clear) = clear.2

-- what comes at slot `begin` or later also comes from a later slot on, if no header of the page is between them
brought_later : (s : Stream) (p : Page) (class : Class) (lines repeat : ℕ) (item : Item) (begin later end : ℤ) →
    ((h : ℤ) → begin ≤ℤ h → heads_page p.id (packet_of (s h)) ≡ true → later ≤ℤ h) → IsBrought s p class lines repeat item begin end →
    IsBrought s p class lines repeat item later end
brought_later s p class lines repeat item begin later end none (inl sent) = inl (record {
  first = sent.first;
  rest = sent.rest;
  owner = sent.owner;
  owned = sent.owned;
  not_before = none sent.owner sent.not_before (owner_heads s p.id item sent.owner sent.first sent.owned).1;
  run = sent.run;
  all_sure = sent.all_sure;
  ends = sent.ends;
})
brought_later s p class lines repeat item begin later end none (inr clear) =
    let h = clear.2 in
    inr (clear.0, clear.1, record { slot = h.slot; not_before = none h.slot h.not_before h.is_header; before = h.before; is_header = h.is_header })

must : (sel : Selection) (m new : Memory) (pkt : Packet) → m.storing ≡ true → new.storing ≡ false → heads_number sel pkt ≡ false →
    must_show sel m new pkt ≡ false → ⊥
must sel m new pkt on idle other not = grind arith

module _ (runs : RunsAreSeen) (decide : ContentsDecide) (kind : KindIsKept) (header : HeaderIsKept) (go_on : RunsGoOn)
    (s : Stream) (p : Page) (sel : Selection) (class : Class) (lines repeat : ℕ) (begin end : ℤ) (page : IsPage p) (few : lines ≤ 32)
    (fits : matches sel p.id ≡ true)
    (steady : IsSteadyFrom s p sel begin) (brought : (item : Item) → needed p item ≡ true → IsBrought s p class lines repeat item begin end)
    (gap : ℕ) (followed : IsFollowedFrom s p.id gap begin) (received : List (List ℕ)) (permitted : Received s p.id repeat begin received) where
  abbrev at : ℕ → ℤ
  at n = begin +ℤ pos n

  low : (n : ℕ) → begin ≤ℤ at n
  low n = omega (arith, ints)

  same_at : (n : ℕ) → n < length received → SameTests (s (at n)) (get_or received n [])
  same_at n lt = same_tests kind header (s (at n)) (get_or received n []) (steady.slots (at n) (low n)) (steady.clean (at n) (low n)) (permitted.each n lt)

  -- no header of the magazine comes before
  abbrev NoneTo : ℤ → Type 0
  NoneTo j = (i : ℤ) → begin ≤ℤ i → i <ℤ j → heads p.id.mag (packet_of (s i)) ≡ false

  -- What is gathered after n slots comes from a permitted receiver, tuned before or at the first header of the magazine. If it is storing, it
  -- does so under a header of the page, or since it was tuned.
  record IsTracked (n : ℕ) (m : Memory) : Type 0 where
    place : ℕ
    count : ℕ
    all : place + count ≡ n
    base : Memory
    former : IsFormer class base
    none : NoneTo (at place)
    run : Run class lines sel base (take count (drop place received)) m
    under : m.storing ≡ true → IsUnder s p.id (λ h. begin ≤ℤ h) (at n) ⊎ NoneTo (at n)

  track : (n : ℕ) (m new : Memory) → n < length received → IsTracked n m → Step class lines sel m (get_or received n []) new → IsTracked (suc n) new
  track n m new lt t step =
      let size = length-drop t.place received in
      let all = t.all in
      let next : at (suc n) ≡ at n +ℤ pos 1 = omega (arith, ints) in
      record {
        place = t.place;
        count = t.count + 1;
        all = omega arith;
        base = t.base;
        former = t.former;
        none = t.none;
        run = rw (one_more (drop t.place received) t.count [] (omega arith), get_or-drop t.place received t.count [], t.all)
            (go_on class class lines lines sel sel t.base m new (take t.count (drop t.place received)) (get_or received n []) refl refl refl t.run step);
        under = λ on. elim (stores s p.id sel fits (at n) (get_or received n []) (same_at n lt) class lines (steady.selected (at n) (low n)) m new step on)
            as (λ _. IsUnder s p.id (λ h. begin ≤ℤ h) (at (suc n)) ⊎ NoneTo (at (suc n))) [
              | inl own ↦ inl (under_own s p.id (λ h. begin ≤ℤ h) (at n) (at (suc n)) next (low n) own)
              | inr kept ↦ elim (t.under kept.0) as (λ _. IsUnder s p.id (λ h. begin ≤ℤ h) (at (suc n)) ⊎ NoneTo (at (suc n))) [
                | inl u ↦ inl (under_more s p.id (λ h. begin ≤ℤ h) (at n) (at (suc n)) next u kept.1)
                | inr none ↦ inr (none_more s p.id.mag (λ i. begin ≤ℤ i) (at n) (at (suc n)) next none kept.1)
              ]
            ];
      }

  track_late : (n : ℕ) (d new : LateMemory) → n < length received → IsTracked n d.gathered → LateStep class lines sel d (get_or received n []) new →
      IsTracked (suc n) new.gathered
  track_late n d new lt t step = track n step.base new.gathered lt (elim step.from as (λ _. IsTracked n step.base) [
    | inl e ↦ subst (IsTracked n) (sym e) t
    | inr forgot ↦
        let parts = and_parts _ _ forgot.0 in
        let none : NoneTo (at n) = elim (t.under parts.0) as (λ _. NoneTo (at n)) [
          | inl u ↦ absurd (both_ways _ (not_number s p.id sel fits (at n) (get_or received n []) (same_at n lt) u.header u.latest
              (followed u.header u.within u.own).0) parts.1)
          | inr none ↦ none
        ] in
        record { place = n; count = 0; all = omega arith; base = step.base; former = forgot.1; none = none; run = refl; under = λ _. inr none }
  ]) step.step

  steady_later : (later : ℤ) → begin ≤ℤ later → IsSteadyFrom s p sel later
  steady_later later le = record {
    slots = λ j low. steady.slots j (omega (arith, ints));
    clean = λ j low. steady.clean j (omega (arith, ints));
    selected = λ j low. steady.selected j (omega (arith, ints));
    items = λ item checked h j low owned. steady.items item checked h j (omega (arith, ints)) owned;
  }

  -- what is gathered has the View from the deadline on
  view : (n : ℕ) (m : Memory) → n ≤ length received → IsTracked n m → end ≤ℤ at n → HasView p m
  view n m le t late =
      let all = t.all in
      let size = length-drop t.place received in
      let part = drop t.place received in
      let count = length-take-le t.count part (omega arith) in
      runs s p sel class lines repeat (at t.place) end page few fits (steady_later (at t.place) (low t.place))
      (λ item need. brought_later s p class lines repeat item begin (at t.place) end
      (λ h from own. elim (cases_ltz h (at t.place)) as (λ _. at t.place ≤ℤ h)
      [ inl lt ↦ absurd (both_ways _ (t.none h from lt) (page_heads p.id (packet_of (s h)) own)) | inr ge ↦ ge ]) (brought item need))
      t.base m (take t.count part) t.former
      (received_before s p.id repeat (at t.place) t.count part (omega arith)
      (received_later s p.id repeat begin (at t.place) t.place refl received (omega arith) permitted))
      t.run (omega (arith, ints))

  module _ (first : HasHeaderBetween s p begin end) where
    -- The header is still to come. Or it has come, and the page is being stored under a header before the deadline; or nothing is being
    -- stored, and what was gathered is shown; or the deadline is over, and the View is shown.
    data Stage (n : ℕ) (d : LateMemory) : Type 0 where
      Before : at n ≤ℤ first.slot → Stage n d
      Due : d.gathered.storing ≡ true → IsUnder s p.id (λ h. (begin ≤ℤ h) × (h <ℤ end)) (at n) → Stage n d
      Settled : d.gathered.storing ≡ false → Same d.shown d.gathered → Stage n d
      Viewed : end ≤ℤ at n → HasView p d.shown → Stage n d

    module _ (n : ℕ) (d new : LateMemory) (lt : n < length received) (step : LateStep class lines sel d (get_or received n []) new)
        (t : IsTracked n d.gathered) where
      next : at (suc n) ≡ at n +ℤ pos 1
      next = omega (arith, ints)

      viewed : end ≤ℤ at n → HasView p d.shown → Stage (suc n) new
      viewed late v = Viewed (omega (arith, ints))
          (shown_is class lines sel d new (get_or received n []) step (HasView p) (view n d.gathered (omega arith) t late)
          (view (suc n) new.gathered lt (track_late n d new lt t step) (omega (arith, ints))) (λ _. v))

      -- a header of the page begins storing
      due : at n <ℤ end → heads_page p.id (packet_of (s (at n))) ≡ true → Stage (suc n) new
      due early own =
          Due (begins class lines sel d new (get_or received n []) step
          ((same_at n lt).matched sel ∙ page_matched sel p.id fits (packet_of (s (at n))) own))
          (under_own s p.id (λ h. (begin ≤ℤ h) × (h <ℤ end)) (at n) (at (suc n)) next (low n, early) own)

      stage : Stage n d → Stage (suc n) new
      stage (Before le) = elim (cases_ltz (at n) first.slot) as (λ _. Stage (suc n) new) [
        | inl less ↦ Before (omega (arith, ints))
        | inr ge ↦ let e : first.slot ≡ at n = omega (arith, ints) in let before = first.before in
            due (omega (arith, ints)) (subst (λ z. heads_page p.id (packet_of (s z)) ≡ true) e first.is_header)
      ]
      stage (Due on u) =
          let slot = get_or received n [] in
          let other = not_number s p.id sel fits (at n) slot (same_at n lt) u.header u.latest (followed u.header u.within.0 u.own).0 in
          let none = and_right d.gathered.storing _ other in
          elim (cases_Bool new.gathered.storing) as (λ _. Stage (suc n) new) [
            | inl still ↦ elim (step_storing class lines sel d.gathered new.gathered slot (taken class lines sel d new slot step none) still) as
                (λ _. Stage (suc n) new) [
                  | inl matched ↦ absurd (both_ways _ other (matched_number sel (packet_of slot) matched))
                  | inr kept ↦ Due still (under_more s p.id (λ h. (begin ≤ℤ h) × (h <ℤ end)) (at n) (at (suc n)) next u
                      (no_header s p.id sel fits (at n) slot (same_at n lt) kept.1))
                ]
            | inr idle ↦ Settled idle (settles class lines sel d new slot step none idle
                (λ stays. absurd (must sel d.gathered new.gathered (packet_of slot) on idle other stays)))
          ]
      stage (Settled idle same) =
          let slot = get_or received n [] in
          let none = and_left d.gathered.storing _ idle in
          elim (cases_ltz (at n) end) as (λ _. Stage (suc n) new) [
            | inr late ↦ viewed late (has_view_same decide p d.gathered d.shown same (view n d.gathered (omega arith) t late))
            | inl early ↦ elim (cases_Bool new.gathered.storing) as (λ _. Stage (suc n) new) [
              | inr still ↦ Settled still (settles class lines sel d new slot step none still (λ _. same))
              | inl on ↦ elim (stores s p.id sel fits (at n) slot (same_at n lt) class lines (steady.selected (at n) (low n)) d.gathered new.gathered
                  (taken class lines sel d new slot step none) on) as (λ _. Stage (suc n) new)
                  [ inl own ↦ due early own | inr kept ↦ absurd (both_ways _ idle kept.0) ]
            ]
          ]
      stage (Viewed late v) = viewed late v

    ends : (d : LateMemory) → (end +ℤ pos gap) ≤ℤ at (length received) → IsTracked (length received) d.gathered → Stage (length received) d → HasView p d.shown
    ends d long t (Before le) = let before = first.before in absurd (omega (arith, ints))
    ends d long t (Due on u) =
        let f = followed u.header u.within.0 u.own in
        let near = f.1 in
        let far = not_earlier s p.id u.header (at (length received)) u.latest f.0 in
        let before = u.within.1 in
        absurd (omega (arith, ints))
    ends d long t (Settled idle same) =
        has_view_same decide p d.gathered d.shown same (view (length received) d.gathered (omega arith) t (omega (arith, ints)))
    ends d long t (Viewed late v) = v

    pub shown_view : (former d : LateMemory) → IsFormer class former.gathered → LateRun class lines sel former received d →
        (end +ℤ pos gap) ≤ℤ at (length received) → HasView p d.shown
    shown_view former d is_former run long =
        let none : NoneTo (at 0) = λ i from to. absurd (omega (arith, ints)) in
        let low = first.not_before in
        let last = run_keeps class lines sel received former (λ n d. IsTracked n d.gathered × Stage n d) (
          record { place = 0; count = 0; all = refl; base = former.gathered; former = is_former; none = none; run = refl; under = λ _. inr none },
          Before (omega (arith, ints)),
        )
        (λ n d new lt step kept. (track_late n d new lt kept.0 step, stage n d new lt step kept.0 kept.1))
        (length received) d (omega arith) (subst (λ x. LateRun class lines sel former x d) (sym (take_all (length received) received (omega arith))) run) in
        ends d long last.0 last.1

pub runs_are_shown : ContentsDecide → KindIsKept → HeaderIsKept → RunsGoOn → RunsAreSeen → RunsAreShown
runs_are_shown decide kind header go_on runs s p sel class lines repeat begin end page few fits steady brought gap followed former d received
    is_former r run long =
    shown_view runs decide kind header go_on s p sel class lines repeat begin end page few fits steady brought gap followed received r
    (brought_header s p class lines repeat TheLinks begin end (brought TheLinks refl)) former d is_former run long
