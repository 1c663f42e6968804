use Rattle.std.proofs.Common.{sym, ◌∙◌}
use Rattle.ttx_monitor.proofs.LongestStreaks.{unplaced}
use Rattle.ttx_monitor.proofs.streaks.longest_with.Goals as goal

pub returns-in-None : goal.returns-in-None
returns-in-None c = λ w table feed cyc t is sent a l.
    unplaced w table feed c.args.pair.now.received.now c.args.longest (sym is ∙ c.in-None.is) l

pub returns-in-Some : goal.returns-in-Some
returns-in-Some c = λ w table feed cyc t is sent a l. c.longest_of_row.ensures w table feed cyc t (sym c.in-Some.is ∙ is) sent a l
