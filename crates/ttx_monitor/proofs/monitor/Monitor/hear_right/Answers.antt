use Rattle.std.proofs.Common.{get_or, ◌++◌, ◌∷◌, [], None, ap, ◌∙◌, arith}
use Rattle.std.proofs.lemmas.List.{length_push}
use Rattle.ttx_monitor.specs.Totals.{wrong_bytes}
use Rattle.ttx_monitor.proofs.DueSlots.{some_slots, due_place, next_at, right_noted}
use Rattle.ttx_monitor.proofs.HeardSlot.{heard}
use Rattle.ttx_monitor.proofs.KeptIsWithin.{kept_on, kept_before}
use Rattle.ttx_monitor.proofs.LongestStreaks.{unchanged}
use Rattle.ttx_monitor.proofs.WrongBytes.{wrong_more}
use Rattle.ttx_monitor.proofs.monitor.Monitor.hear_right.Goals as goal

pub returns-clause-stands : goal.returns-clause-stands
returns-clause-stands c = λ w feed slot st right.
    let m = c.args.self.now in
    let table = m.table.items in
    let cyc = some_slots m w feed st in
    let place = due_place m w feed st c.place_at-place.result (c.place_at-place.ensures ∙ ap (λ l. get_or l m.at None) c.as_slice.ensures.value) in
    let noted = right_noted w table feed slot st.some right.texts in
    let l = length_push feed slot in
    record {
      cycle = st.cycle;
      repeat = st.repeat;
      some = st.some;
      at = next_at m w feed st c.slots.result.now (c.slots.ensures.slots ∙ st.cycle) slot c.next-self.result c.next-self.ensures;
      table = st.table;
      streaks = c.clear_row.ensures w table feed slot cyc st.table place right.texts st.streaks;
      count = let e = c.one_more-self.ensures in let k = st.count in omega arith;
      longest = unchanged w table feed slot m.longest right.texts st.longest;
      wrong = let k = st.wrong in let more = right.wrong in let all = wrong_more w feed slot in
          let grown = ap (wrong_bytes w (feed ++ slot ∷ [])) l in omega arith;
      within = (
        (λ h. kept_on c.rows_are_numbered.ensures c.each_slot_turns.ensures c.streams_move.ensures c.streaks_decide.ensures w cyc st.some
            table st.table feed slot (st.within.0 h) right.may noted),
        (λ kept. st.within.1 (kept_before c.rows_are_numbered.ensures c.each_slot_turns.ensures c.streams_move.ensures c.streaks_decide.ensures w
            cyc st.some table st.table feed slot kept)),
      );
    }

pub returns-clause-heard : goal.returns-clause-heard
returns-clause-heard c = λ w feed slot st right.
    let m = c.args.self.now in
    heard c.rows_are_numbered.ensures c.each_slot_turns.ensures c.streams_move.ensures c.streaks_decide.ensures w (some_slots m w feed st) st.some
    m.table.items st.table feed slot None None right.may (right_noted w m.table.items feed slot st.some right.texts)
