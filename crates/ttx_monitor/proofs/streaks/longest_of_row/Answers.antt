use Rattle.std.proofs.Common.{◌+◌, ◌*◌, sym, ap, subst}
use Rattle.ttx_monitor.specs.Streaks.{IsLargestIn}
use Rattle.ttx_monitor.proofs.FeedStreaks.{bounds}
use Rattle.ttx_monitor.proofs.LongestStreaks.{placed}
use Rattle.ttx_monitor.proofs.streaks.longest_of_row.Goals as goal

pub returns : goal.returns
returns c = λ w table feed cyc t is sent a l.
    let slot = c.args.pair.now.received.now in
    let place = c.args.place in
    let b = bounds w table feed slot cyc t place (sym is) in
    let at = ap (λ z. 1050 * place.page + 42 * z) c.from.ensures in
    placed w table feed slot place (sym is) b.0 b.1 c.text_of.result.0 c.text_of.result.1 c.text_of.ensures.only c.text_of.ensures.text
    c.args.cells.now.items a c.args.longest c.longest_in.result
    (subst (λ z. IsLargestIn z c.text_of.result.0 c.text_of.result.1 c.args.cells.now.items c.args.longest c.longest_in.result) at c.longest_in.ensures) l
