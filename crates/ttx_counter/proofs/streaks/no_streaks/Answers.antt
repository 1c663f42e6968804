use Rattle.ttx_counter.proofs.streaks.no_streaks.Goals as goal
use Rattle.ttx_counter.proofs.NotedStreaks.{nothing_noted}

pub returns-clause-none : goal.returns-clause-none
returns-clause-none c = λ sent wrong k some. nothing_noted sent wrong k c.in_ok-latest.latest.items c.in_ok-cells.cells.items
    c.in_ok-latest.ensures.zero c.in_ok-cells.ensures.none some
