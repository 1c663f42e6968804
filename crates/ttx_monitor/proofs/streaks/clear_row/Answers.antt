use Rattle.std.proofs.Common.{◌+◌, ◌*◌, sym, ap, ◌∙◌, subst}
use Rattle.ttx_monitor.specs.Streaks.{AreCleared}
use Rattle.ttx_monitor.proofs.FeedStreaks.{unnoted, bounds, noted, own}
use Rattle.ttx_monitor.proofs.DueSlots.{as_cleared}
use Rattle.ttx_monitor.proofs.streaks.clear_row.Goals as goal

pub returns-in_default : goal.returns-in_default
returns-in_default c = λ w table feed slot cyc t is texts a. unnoted w table feed slot (sym is ∙ c.in_default.is) c.args.cells.now.items a

pub returns : goal.returns
returns c = λ w table feed slot cyc t is texts a.
    let place = c.in-Some.place in
    let here = sym is ∙ c.in-Some.is in
    let b = bounds w table feed slot cyc t place here in
    let at = ap (λ z. 1050 * place.page + 42 * z) c.from.ensures in
    noted w table feed slot place here b.0 b.1 c.text_of.result.0 c.text_of.result.1 c.text_of.ensures.few c.text_of.ensures.only
    c.args.cells.now.items c.clear.new.cells.items a
    (as_cleared _ _ _ w.repeat _ slot _ _
    (λ x low lt. texts place.page place.row x (own w table feed slot place here b.0 b.1) (c.text_of.ensures.text x low lt))
    (subst (λ z. AreCleared z c.text_of.result.0 c.text_of.result.1 c.args.cells.now.items c.clear.new.cells.items) at c.clear.ensures))
