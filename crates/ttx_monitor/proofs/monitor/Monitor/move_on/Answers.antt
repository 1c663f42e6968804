use Rattle.std.proofs.Common.{◌≡◌, ◌+◌, ◌%◌, ◌<◌, Some, length, refl, sym, ap, ◌∙◌, subst, arith, mod-eq_of_lt}
use Rattle.std.proofs.lemmas.Nat.{mod_below}
use Rattle.ttx_cycle.specs.Cycles.{slots_of-IsCycle}
use Rattle.ttx_monitor.specs.Events.{place_of, moved}
use Rattle.ttx_monitor.proofs.FirstState.{none, first_streaks, first_kept}
use Rattle.ttx_monitor.proofs.LongestStreaks.{first_longest}
use Rattle.ttx_monitor.proofs.WrongBytes.{no_wrong}
use Rattle.ttx_monitor.proofs.monitor.Monitor.move_on.Goals as goal

pub returns : goal.returns
returns c = λ w feed st lt.
    let m = c.args.self.now in
    let by = c.args.by in
    let n = length w.cycle in
    let v = moved w (length feed) (Some by) in
    let table = m.table.items in
    let is_cycle = slots_of-IsCycle m.cycle.now in
    let most = is_cycle.most in
    let size = ap length st.cycle in
    let cyc : 0 < n = subst (λ l. 0 < length l) st.cycle is_cycle.some in
    let inside : m.at < n = subst (λ z. z < n) (sym st.at) (mod_below (w.start + length feed) n cyc) in
    let slots = c.slots-count.ensures.slots ∙ st.cycle in
    let here : c.place_on-self.result ≡ v.start =
    c.place_on-self.ensures (subst (λ l. m.at < length l) (sym slots) inside) (subst (λ l. by < length l) (sym slots) lt)
    ∙ ap (λ l. (m.at + by) % length l) slots ∙ ap (λ z. (z + by) % n) st.at in
    let below : v.start < n = mod_below (place_of w (length feed) + by) n cyc in
    let plain : v.start + 0 ≡ v.start = omega arith in
    record {
      cycle = st.cycle;
      repeat = st.repeat;
      some = st.some;
      at = here ∙ sym (ap (λ z. z % n) plain ∙ mod-eq_of_lt below);
      table = st.table;
      streaks = first_streaks v table c.clear_all.new.cells.items (c.clear_all.ensures.size ∙ st.streaks.size) c.clear_all.ensures.zero;
      count = omega arith;
      longest = first_longest v table (none v table);
      wrong = let z = no_wrong v in omega arith;
      within = ((λ _. first_kept v table st.some), (λ _. refl));
    }
