use Rattle.std.proofs.Common.{◌<◌, length, subst}
use Rattle.ttx_cycle.specs.Cycles.{slots_of-IsCycle}
use Rattle.ttx_monitor.proofs.LongestStreaks.{most_wrong}
use Rattle.ttx_monitor.proofs.monitor.Monitor.streak.Goals as goal

pub returns : goal.returns
returns c = λ w feed st.
    let m = c.args.self.now in
    let cyc : 0 < length w.cycle = subst (λ l. 0 < length l) st.cycle (slots_of-IsCycle m.cycle.now).some in
    most_wrong c.rows_are_numbered.ensures c.each_slot_turns.ensures c.streams_move.ensures c.streaks_decide.ensures w cyc st.some
    m.table.items st.table feed m.longest st.longest
