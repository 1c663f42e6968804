use Rattle.std.proofs.Common.{refl, inl}
use Rattle.std.proofs.lemmas.Bool.{both_ways}
use Rattle.ttx_cycle.specs.Counters.{inner_of}
use Rattle.ttx_row_monitor.proofs.SteppedRows.{if_shift, placed}
use Rattle.ttx_row_monitor.proofs.monitor.RowMonitor.slip.Goals as goal

pub returns-then-takes-clause-placed : goal.returns-then-takes-clause-placed
returns-then-takes-clause-placed g c = λ w slots bytes st left begins. (inl ((c.takes.ensures w slots st).0 c.if-takes.true), st, left, begins)

pub returns-clause-placed : goal.returns-clause-placed
returns-clause-placed g c =
    if_shift _ _ c.shift_at.result (λ shift p w slots bytes st left begins.
    placed c.args.self.now _ w slots st bytes c.args.slot.now c.shift_at.new.ahead (g.R.Read.remaining (inner_of c.shift_at.new.feed))
    (λ arrives. both_ways _ c.if-takes.false ((c.takes.ensures w slots st).1 arrives)) shift refl refl refl
    (p w st.muted bytes st.stands left begins))
    c.shift_at.ensures.placed
