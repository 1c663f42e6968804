-- A row monitor that hears one more slot.
use Rattle.std.proofs.Common.{◌≡◌, ◌↔◌, ◌⊎◌, ℕ, zero, suc, ◌+◌, ◌-◌, ◌^◌, ◌%◌, ◌<◌, ◌≤◌, min, pos, ◌+ℤ◌, Bool, true, false, not, ◌&&◌, List, [], ◌∷◌, ◌++◌, length, map}
use Rattle.std.proofs.Common.{get_or, slice_get, Option, Some, None, refl, sym, ap, ◌∙◌, subst, inl, inr, arith}
use Rattle.std.proofs.lemmas.Int.{ints}
use Rattle.std.proofs.lemmas.Bool.{both_ways, cases_Bool, cases_lt}
use Rattle.std.proofs.lemmas.Bool.Decides.{nat_tests}
use Rattle.std.proofs.lemmas.Nat.{mod_below}
use Rattle.std.proofs.lemmas.List.{get_or_append_left, get_or_push, length_push}
use Rattle.ttx_code.specs.Words.{Near}
use Rattle.ttx_packet.specs.Slots.{is_empty, kind_of}
use Rattle.ttx_packet.specs.Receptions.{IsFree, MayBeReceivedAs}
use Rattle.ttx_cycle.specs.Cycles.{slots_of-IsCycle}
use Rattle.ttx_page.specs.Laws.{EachSlotTurns, StreamsMove}
use Rattle.ttx_page.specs.Pages.{Page, needed}
use Rattle.ttx_page.specs.declared.item.Item.TheVariants.{Head as TheHead, Row as TheRow}
use Rattle.ttx_page.specs.Streams.{repeated, IsTransmission}
use Rattle.ttx_counter.specs.Cells.{is_text}
use Rattle.ttx_counter.specs.Listening.{item_of}
use Rattle.ttx_monitor.specs.Watching.{Watched, sent_at, KeepsByte, IsWithin}
use Rattle.ttx_monitor.specs.Breaches.{IsSlotJudged, IsRepeatedWrong, IsHeard}
use Rattle.ttx_monitor.specs.declared.breach.Breach.{Breach}
use Rattle.ttx_monitor.specs.declared.breach.Breach.TheVariants.{Unasked, Lost, Bits, Repeated}
use Rattle.ttx_monitor.specs.declared.breach.TextByte.{TextByte}
use Rattle.ttx_row_monitor.specs.RowFeeds.{Arrives, IsLost, IsWithinByRows}
use Rattle.ttx_row_monitor.specs.Flags.{IsFlag, AreFlags}
use Rattle.ttx_row_monitor.specs.Muting.{IsMutedAs, IsMutedSlot, AreMuted}
use Rattle.ttx_row_monitor.specs.RowBreaches.{row_breach}
use Rattle.ttx_page.specs.Views.{page_of}
use Rattle.ttx_monitor.specs.Standing.{Stands}
use Rattle.ttx_monitor.specs.Events.{place_of}
use Rattle.ttx_row_monitor.specs.RowStanding.{HasLost, RowStands, IsTornRow, IsRowHeard}
use Rattle.ttx_row_monitor.specs.declared.breach.RowBreach.{RowBreach}
use Rattle.ttx_row_monitor.specs.declared.monitor.RowMonitor.{RowMonitor}
use Rattle.ttx_row_monitor.proofs.PlacedRows.{flag_counts, flag_on}
use Rattle.ttx_row_monitor.proofs.MutedFeeds.{within_by_rows, within_by_bytes, byte_kept, muted_more}

-- what is judged a breach cannot have been received
judged_not : (sent received : List ℕ) (breach : Breach) → IsSlotJudged sent received (Some breach) → MayBeReceivedAs sent received → ⊥
judged_not sent received Unasked j may = both_ways _ j.1 (may.empty j.0)
judged_not sent received Lost j may = j.1 may
judged_not sent received (Bits x) j may = go (may.near x j.2.inside)
  where
    go : IsFree (kind_of sent) x ⊎ Near (get_or sent x 0) (get_or received x 0) → ⊥
    go (inl free) = j.2.compared free
    go (inr near) = j.2.far near
judged_not sent received (Repeated t) j may = j

-- the flag of a slot of the feed
pub slot_flag : EachSlotTurns → StreamsMove → (w : Watched) → 0 < length w.cycle → (flags : List Bool) → AreFlags w.cycle w.pages flags → (n : ℕ) →
    IsFlag w.cycle w.pages (pos w.start +ℤ pos n)
    (get_or flags ((w.start + n) % length w.cycle) false && not (is_empty (sent_at w n)))
slot_flag turns move w some flags are n = subst (λ j. IsFlag w.cycle w.pages j (get_or flags ((w.start + n) % length w.cycle) false && not (is_empty (sent_at w n))))
    refl (flag_counts w.cycle w.pages (pos w.start +ℤ pos n) (get_or flags ((w.start + n) % length w.cycle) false)
    (let e : pos (w.start + n) ≡ pos w.start +ℤ pos n = omega (arith, ints) in
    subst (λ j. IsFlag w.cycle w.pages j (get_or flags ((w.start + n) % length w.cycle) false)) e
    (flag_on turns move w.cycle some w.pages (w.start + n) _ (are.each ((w.start + n) % length w.cycle) (mod_below (w.start + n) (length w.cycle) some)))))

-- what was lost before is still lost
lost_same : (w : Watched) (feed : List (List ℕ)) (slot : List ℕ) (n c : ℕ) → n ≤ length feed → HasLost w feed n c → HasLost w (feed ++ slot ∷ []) n c
unfolding HasLost
lost_same w feed slot zero c le h = h
lost_same w feed slot (suc n) c le (inl h) =
    let e = sym (get_or_append_left feed (slot ∷ []) [] n (omega arith)) in
    inl (subst (IsLost w.pages (sent_at w n)) e h.0, (h.1.0, h.1.1, lost_same w feed slot n h.1.0 (omega arith) h.1.2))
lost_same w feed slot (suc n) c le (inr h) =
    let e = get_or_append_left feed (slot ∷ []) [] n (omega arith) in
    inr ((λ l. h.0 (subst (IsLost w.pages (sent_at w n)) e l)), lost_same w feed slot n c (omega arith) h.1)

module _ (w : Watched) (feed : List (List ℕ)) (slot : List ℕ) where
  here : get_or (feed ++ slot ∷ []) (length feed) [] ≡ slot
  here = get_or_push feed slot [] (length feed) refl

  one_more : suc (length feed) ≡ length (feed ++ slot ∷ [])
  one_more = let l = length_push feed slot in omega arith

  pub one_lost : (c : ℕ) → HasLost w feed (length feed) c → IsLost w.pages (sent_at w (length feed)) slot →
      HasLost w (feed ++ slot ∷ []) (length (feed ++ slot ∷ [])) (c + 1)
  unfolding HasLost
  one_lost c h lost = subst (λ n. HasLost w (feed ++ slot ∷ []) n (c + 1)) one_more
      (inl (subst (IsLost w.pages (sent_at w (length feed))) (sym here) lost, (c, (omega arith), lost_same w feed slot (length feed) c (omega arith) h)))

  pub none_lost : (c : ℕ) → HasLost w feed (length feed) c → (IsLost w.pages (sent_at w (length feed)) slot → ⊥) →
      HasLost w (feed ++ slot ∷ []) (length (feed ++ slot ∷ [])) c
  unfolding HasLost
  none_lost c h kept = subst (λ n. HasLost w (feed ++ slot ∷ []) n c) one_more
      (inr ((λ l. kept (subst (IsLost w.pages (sent_at w (length feed))) here l)), lost_same w feed slot (length feed) c (omega arith) h))

  module _ (some : 1 ≤ w.repeat) (muted : List (List ℕ)) (packet : List ℕ) (m : AreMuted w feed muted) (mine : IsMutedSlot w (length feed) slot packet) where
    more : AreMuted w (feed ++ slot ∷ []) (muted ++ packet ∷ [])
    more = muted_more w feed muted slot packet m mine

    sent_here : sent_at w (length muted) ≡ sent_at w (length feed)
    sent_here = ap (λ n. sent_at w n) m.size

    pub first_breach : IsWithinByRows w feed → (result : Option Breach) → (IsWithin w muted → (result ≡ None) ↔ IsWithin w (muted ++ packet ∷ [])) →
        (result ≡ None) ↔ IsWithinByRows w (feed ++ slot ∷ [])
    first_breach within result first =
        let f = first (within_by_bytes w some feed muted m within) in (
          (λ none. within_by_rows w some (feed ++ slot ∷ []) (muted ++ packet ∷ []) more (f.0 none)),
          (λ still. f.1 (within_by_bytes w some (feed ++ slot ∷ []) (muted ++ packet ∷ []) more still)),
        )

    arrives_all : IsWithinByRows w feed → Arrives w.pages (sent_at w (length feed)) slot → (n : ℕ) → n < length (feed ++ slot ∷ []) →
        Arrives w.pages (sent_at w n) (get_or (feed ++ slot ∷ []) n [])
    arrives_all within arrives n lt =
        let g = length_push feed slot in
        elim (cases_lt n (length feed)) as (λ _. Arrives w.pages (sent_at w n) (get_or (feed ++ slot ∷ []) n [])) [
          | inl before ↦ subst (Arrives w.pages (sent_at w n)) (sym (get_or_append_left feed (slot ∷ []) [] n before)) (within.each n before)
          | inr after ↦
              let e : length feed ≡ n = omega arith in
              subst (λ k. Arrives w.pages (sent_at w k) (get_or (feed ++ slot ∷ []) k [])) e
              (subst (Arrives w.pages (sent_at w (length feed))) (sym here) arrives)
        ]

    -- a byte that was wrong too often is one of a row that a viewer sees
    row_of : (p : Page) (i : ℕ) → slice_get w.pages i ≡ Some p → Arrives w.pages (sent_at w (length feed)) slot → (x : ℕ) → x < 42 →
        (get_or packet x 0 ≡ get_or (sent_at w (length feed)) x 0 → ⊥) → (r : ℕ) →
        IsTransmission (repeated w.cycle) p.id (item_of r) (pos w.start +ℤ pos (length feed)) →
        (needed p (TheRow r) ≡ true) × IsTransmission (repeated w.cycle) p.id (TheRow r) (pos w.start +ℤ pos (length feed)) × (item_of r ≡ TheRow r)
    row_of p i is arrives x high wrong zero sent = absurd (wrong (mine.muted_as.right arrives (mine.flag_is i p TheHead is tt sent) x high))
    row_of p i is arrives x high wrong (suc r) sent = elim (cases_Bool (needed p (TheRow (suc r)))) as
        (λ _. (needed p (TheRow (suc r)) ≡ true) × IsTransmission (repeated w.cycle) p.id (TheRow (suc r)) (pos w.start +ℤ pos (length feed))
        × (item_of (suc r) ≡ TheRow (suc r))) [
          | inl need ↦ (need, sent, refl)
          | inr other ↦ absurd (wrong (mine.muted_as.right arrives (mine.flag_is i p (TheRow (suc r)) is tt sent ∙ other) x high))
        ]

    torn_row : (t : TextByte) → Arrives w.pages (sent_at w (length feed)) slot → IsRepeatedWrong w muted packet t → IsTornRow w feed slot t.page t.row
    torn_row t arrives r = record {
      listed = r.page;
      needed = λ p is. (row p is).0;
      sent = λ p is. (row p is).1;
      broken = λ within p is keeps.
          let q = row p is in
          r.broken p is (subst (λ item. KeepsByte w (muted ++ packet ∷ []) p.id item t.byte) (sym q.2)
          (byte_kept w some (feed ++ slot ∷ []) (muted ++ packet ∷ []) more (arrives_all within arrives) t.page p is t.row keeps q.0 t.byte
          (low t.row t.byte (need_row t.row p q.0) r.text) (high t.row t.byte r.text)));
    }
      where
        high : (r x : ℕ) → is_text r x ≡ true → x < 42
        high zero x h = grind (arith, nat_tests)
        high (suc r) x h = grind (arith, nat_tests)

        low : (r x : ℕ) → 1 ≤ r → is_text r x ≡ true → 2 ≤ x
        low zero x some h = absurd (omega arith)
        low (suc r) x some h = grind (arith, nat_tests)

        need_row : (r : ℕ) (p : Page) → needed p (TheRow r) ≡ true → 1 ≤ r
        need_row zero p h = absurd (both_ways _ refl h)
        need_row (suc r) p h = omega arith

        row : (p : Page) → slice_get w.pages t.page ≡ Some p →
            (needed p (TheRow t.row) ≡ true) × IsTransmission (repeated w.cycle) p.id (TheRow t.row) (pos w.start +ℤ pos (length feed))
            × (item_of t.row ≡ TheRow t.row)
        row p is = row_of p t.page is arrives t.byte (high t.row t.byte r.text)
            (subst (λ s. get_or packet t.byte 0 ≡ get_or s t.byte 0 → ⊥) sent_here r.wrong) t.row
            (subst (λ n. IsTransmission (repeated w.cycle) p.id (item_of t.row) (pos w.start +ℤ pos n)) m.size (r.sent p is))

    strange : (breach : Breach) → IsSlotJudged (sent_at w (length muted)) packet (Some breach) →
        (Arrives w.pages (sent_at w (length feed)) slot → ⊥) × IsSlotJudged (sent_at w (length feed)) slot (Some breach)
    strange breach j =
        let judged = subst (λ s. IsSlotJudged s packet (Some breach)) sent_here j in
        let not : Arrives w.pages (sent_at w (length feed)) slot → ⊥ = λ arrives. judged_not (sent_at w (length feed)) packet breach judged (mine.muted_as.may arrives) in
        (not, subst (λ z. IsSlotJudged (sent_at w (length feed)) z (Some breach)) (mine.muted_as.strange not) judged)

    arrives_with : MayBeReceivedAs (sent_at w (length muted)) packet → Arrives w.pages (sent_at w (length feed)) slot
    arrives_with may = mine.muted_as.arrives (subst (λ s. MayBeReceivedAs s packet) sent_here may)

    pub heard_none : IsHeard w muted packet None → IsRowHeard w feed slot None
    heard_none h = arrives_with h.0

    pub heard_some : (breach : Breach) → IsHeard w muted packet (Some breach) → IsRowHeard w feed slot (Some (row_breach breach))
    heard_some Unasked h = strange Unasked h
    heard_some Lost h = strange Lost h
    heard_some (Bits x) h = strange (Bits x) h
    heard_some (Repeated t) h = let a = arrives_with h.0 in (a, torn_row t a h.1)

-- the breach by rows is none if and only if the one by bytes is
pub none_or : (P : Type 0) (breach : Breach) (row : RowBreach) → (Some breach ≡ None) ↔ P → (Some row ≡ None) ↔ P
none_or P breach row f = ((λ e. absurd (gone e)), (λ p. absurd (none (f.1 p))))
  where
    gone : Some row ≡ None → ⊥
    gone e = cc

    none : Some breach ≡ None → ⊥
    none e = cc

pub none_and : (P : Type 0) (breach : Option Breach) (row : Option RowBreach) → breach ≡ None → row ≡ None → (breach ≡ None) ↔ P → (row ≡ None) ↔ P
none_and P breach row no_breach no_row f = ((λ _. f.0 no_breach), (λ _. no_row))

-- one more slot is heard
module _ (turns : EachSlotTurns) (move : StreamsMove) (m : RowMonitor) (w : Watched) (feed : List (List ℕ)) (st : RowStands m w feed)
    (slot packet due : List ℕ) (flag : Bool) (due_is : due ≡ sent_at w (length st.muted))
    (flag_is : flag ≡ get_or m.flags.items (place_of w (length st.muted)) false)
    (put : IsMutedAs (map page_of m.pages.now) (flag && not (is_empty due)) due slot packet) where
  cyc : 0 < length w.cycle
  cyc = subst (λ l. 0 < length l) st.stands.cycle (slots_of-IsCycle m.monitor.cycle.now).some

  sent_is : due ≡ sent_at w (length feed)
  sent_is = due_is ∙ ap (λ n. sent_at w n) st.are_muted.size

  abbrev on : Bool
  on = get_or m.flags.items (place_of w (length feed)) false

  on_is : flag ≡ on
  on_is = flag_is ∙ ap (λ n. get_or m.flags.items (place_of w n) false) st.are_muted.size

  pub mine : IsMutedSlot w (length feed) slot packet
  mine = record {
    flag = on && not (is_empty (sent_at w (length feed)));
    flag_is = slot_flag turns move w cyc m.flags.items st.flags (length feed);
    muted_as = subst (λ f. IsMutedAs w.pages (f && not (is_empty (sent_at w (length feed)))) (sent_at w (length feed)) slot packet) on_is
        (subst (λ s. IsMutedAs w.pages (flag && not (is_empty s)) s slot packet) sent_is
        (subst (λ ps. IsMutedAs ps (flag && not (is_empty due)) due slot packet) st.pages put));
  }

  lost_here : IsLost (map page_of m.pages.now) due slot → IsLost w.pages (sent_at w (length feed)) slot
  lost_here l = subst (λ s. IsLost w.pages s slot) sent_is (subst (λ ps. IsLost ps due slot) st.pages l)

  lost_there : IsLost w.pages (sent_at w (length feed)) slot → IsLost (map page_of m.pages.now) due slot
  lost_there l = subst (λ ps. IsLost ps due slot) (sym st.pages) (subst (λ s. IsLost w.pages s slot) (sym sent_is) l)

  pub stands_more : (new : RowMonitor) → Stands new.monitor w (st.muted ++ packet ∷ []) → map page_of new.pages.now ≡ w.pages →
      AreFlags w.cycle w.pages new.flags.items → (more : Bool) → (more ≡ true) ↔ IsLost (map page_of m.pages.now) due slot →
      (more ≡ true → new.lost ≡ min (m.lost + 1) (2 ^ 64 - 1)) → (more ≡ false → new.lost ≡ m.lost) → RowStands new w (feed ++ slot ∷ [])
  stands_more new stands pages flags more lost one none = elim (cases_Bool more) as (λ _. RowStands new w (feed ++ slot ∷ [])) [
    | inl yes_lost ↦ record {
      muted = st.muted ++ packet ∷ [];
      are_muted = muted_more w feed st.muted slot packet st.are_muted mine;
      stands = stands;
      pages = pages;
      flags = flags;
      count = st.count + 1;
      lost = one_lost w feed slot st.count st.lost (lost_here (lost.0 yes_lost));
      lost_is = let is = one yes_lost in let old = st.lost_is in omega arith;
    }
    | inr not_lost ↦ record {
      muted = st.muted ++ packet ∷ [];
      are_muted = muted_more w feed st.muted slot packet st.are_muted mine;
      stands = stands;
      pages = pages;
      flags = flags;
      count = st.count;
      lost = none_lost w feed slot st.count st.lost (λ l. both_ways _ not_lost (lost.1 (lost_there l)));
      lost_is = none not_lost ∙ st.lost_is;
    }
  ]

-- no slot has been heard
none_yet : (w : Watched) → HasLost w [] 0 0
unfolding HasLost
none_yet w = refl

pub first_state : (m : RowMonitor) (w : Watched) → Stands m.monitor w [] → map page_of m.pages.now ≡ w.pages → AreFlags w.cycle w.pages m.flags.items →
    m.lost ≡ 0 → RowStands m w []
first_state m w stands pages flags none = record {
  muted = [];
  are_muted = record { size = refl; each = λ n lt. absurd (omega arith) };
  stands = stands;
  pages = pages;
  flags = flags;
  count = 0;
  lost = none_yet w;
  lost_is = let e = none in omega arith;
}
