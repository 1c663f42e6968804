use Rattle.std.proofs.Common.{◌≡◌, ◌↔◌, ◌≤◌, length, get_or, not, ◌++◌, ◌∷◌, [], None, refl, sym, ap, ◌∙◌, subst, arith}
use Rattle.std.specs.Option.{is_some}
use Rattle.std.proofs.lemmas.Bool.{both_ways, not-false}
use Rattle.std.proofs.lemmas.List.{length_push}
use Rattle.ttx_monitor.specs.Watching.{IsWithin}
use Rattle.ttx_monitor.specs.Breaches.{IsSlotJudged, IsHeard}
use Rattle.ttx_monitor.specs.Totals.{wrong_in, wrong_bytes}
use Rattle.ttx_monitor.proofs.WrongBytes.{wrong_more}
use Rattle.ttx_monitor.proofs.DueSlots.{some_slots, due_place, due_slot, next_at}
use Rattle.ttx_monitor.proofs.HeardSlot.{heard, fine_kept, kept_fine, kept_old, none_told, first_breach}
use Rattle.ttx_monitor.proofs.monitor.Monitor.hear.Goals as goal
use Rattle.ttx_monitor.proofs.monitor.Monitor.hear.Goals.{then-self, else-self}

pub returns-clause-stands : goal.returns-clause-stands
returns-clause-stands c = λ w feed st.
    let m = c.args.self.now in
    let n = length feed in
    let table = m.table.items in
    let slot = c.args.slot.now in
    let cyc = some_slots m w feed st in
    let place = due_place m w feed st c.place_at-place.result (c.place_at-place.ensures ∙ ap (λ l. get_or l m.at None) c.as_slice.ensures.value) in
    let sent = due_slot m w feed st c.slot_at-sent.result.now c.slot_at-sent.ensures.is in
    let some : 1 ≤ m.repeat = subst (λ z. 1 ≤ z) (sym st.repeat) st.some in
    let noted = c.note-repeated.ensures.noted w table feed (sym st.repeat) some cyc st.table place sent st.streaks in
    let judged = subst (λ s. IsSlotJudged s slot c.slot_breach.result) sent c.slot_breach.ensures in
    record {
      cycle = st.cycle;
      repeat = st.repeat;
      some = st.some;
      at = next_at m w feed st c.slots.result.now (c.slots.ensures.slots ∙ st.cycle) slot c.next-self.result c.next-self.ensures;
      table = st.table;
      streaks = c.note-repeated.ensures.streaks w table feed (sym st.repeat) cyc st.table place sent st.streaks;
      longest = c.longest_with-self.ensures w table feed cyc st.table place sent
          (c.note-repeated.ensures.streaks w table feed (sym st.repeat) cyc st.table place sent st.streaks) st.longest;
      wrong =
          let e = c.added-self.ensures in
          let k = st.wrong in
          let more = c.wrong_bytes.ensures ∙ ap (λ s. wrong_in s slot) sent in
          let all = wrong_more w feed slot in
          let l = ap (wrong_bytes w (feed ++ slot ∷ [])) (length_push feed slot) in omega arith;
      count = let e = c.one_more-self.ensures in let k = st.count in let l = length_push feed slot in omega arith;
      within = elim c.if-self.branch [
        | then-self q ↦ (
          (λ h. fine_kept c.rows_are_numbered.ensures c.each_slot_turns.ensures c.streams_move.ensures c.streaks_decide.ensures w cyc st.some
              table st.table feed slot c.slot_breach.result c.note-repeated.result judged noted (st.within.0 q.if-self.true)
              (sym c.first_told-breach.ensures
              ∙ none_told c.first_told-breach.result (q.is_none-self.ensures ∙ ap not (sym q.self-is ∙ h)))),
          (λ kept. q.self-is
              ∙ not-false q.is_none-self.result (sym q.is_none-self.ensures
              ∙ ap is_some (c.first_told-breach.ensures
              ∙ kept_fine c.rows_are_numbered.ensures c.each_slot_turns.ensures c.streams_move.ensures c.streaks_decide.ensures w cyc st.some
              table st.table feed slot c.slot_breach.result c.note-repeated.result judged noted kept))),
        )
        | else-self q ↦ (
          (λ h. absurd (both_ways _ q.if-self.false (sym q.self-is ∙ h))),
          (λ kept. absurd (both_ways _ q.if-self.false (st.within.1
              (kept_old c.rows_are_numbered.ensures c.each_slot_turns.ensures c.streams_move.ensures c.streaks_decide.ensures w cyc st.some
              table st.table feed slot kept)))),
        )
      ];
    }

pub returns-clause-heard : goal.returns-clause-heard
returns-clause-heard c = λ w feed st.
    let m = c.args.self.now in
    let n = length feed in
    let table = m.table.items in
    let slot = c.args.slot.now in
    let cyc = some_slots m w feed st in
    let place = due_place m w feed st c.place_at-place.result (c.place_at-place.ensures ∙ ap (λ l. get_or l m.at None) c.as_slice.ensures.value) in
    let sent = due_slot m w feed st c.slot_at-sent.result.now c.slot_at-sent.ensures.is in
    let some : 1 ≤ m.repeat = subst (λ z. 1 ≤ z) (sym st.repeat) st.some in
    subst (IsHeard w feed slot) (sym c.first_told-breach.ensures)
    (heard c.rows_are_numbered.ensures c.each_slot_turns.ensures c.streams_move.ensures c.streaks_decide.ensures w cyc st.some table st.table
    feed slot c.slot_breach.result c.note-repeated.result
    (subst (λ s. IsSlotJudged s slot c.slot_breach.result) sent c.slot_breach.ensures)
    (c.note-repeated.ensures.noted w table feed (sym st.repeat) some cyc st.table place sent st.streaks))

pub returns-clause-first : goal.returns-clause-first
returns-clause-first c = λ w feed st within.
    let m = c.args.self.now in
    let n = length feed in
    let table = m.table.items in
    let slot = c.args.slot.now in
    let cyc = some_slots m w feed st in
    let place = due_place m w feed st c.place_at-place.result (c.place_at-place.ensures ∙ ap (λ l. get_or l m.at None) c.as_slice.ensures.value) in
    let sent = due_slot m w feed st c.slot_at-sent.result.now c.slot_at-sent.ensures.is in
    let some : 1 ≤ m.repeat = subst (λ z. 1 ≤ z) (sym st.repeat) st.some in
    subst (λ o. (o ≡ None) ↔ IsWithin w (feed ++ slot ∷ [])) (sym c.first_told-breach.ensures)
    (first_breach c.rows_are_numbered.ensures c.each_slot_turns.ensures c.streams_move.ensures c.streaks_decide.ensures w cyc st.some table st.table
    feed slot within c.slot_breach.result c.note-repeated.result
    (subst (λ s. IsSlotJudged s slot c.slot_breach.result) sent c.slot_breach.ensures)
    (c.note-repeated.ensures.noted w table feed (sym st.repeat) some cyc st.table place sent st.streaks))

pub returns-then-is_right-clause-stands : goal.returns-then-is_right-clause-stands
returns-then-is_right-clause-stands c = λ w feed st.
    c.hear_right.ensures.stands w feed c.args.slot.now st (c.is_right.ensures w feed st c.if-is_right.true)

pub returns-then-is_right-clause-heard : goal.returns-then-is_right-clause-heard
returns-then-is_right-clause-heard c = λ w feed st.
    c.hear_right.ensures.heard w feed c.args.slot.now st (c.is_right.ensures w feed st c.if-is_right.true)

pub returns-then-is_right-clause-first : goal.returns-then-is_right-clause-first
returns-then-is_right-clause-first c = λ w feed st within.
    let heard = c.hear_right.ensures.heard w feed c.args.slot.now st (c.is_right.ensures w feed st c.if-is_right.true) in
    ((λ _. heard.2 within), (λ _. refl))
