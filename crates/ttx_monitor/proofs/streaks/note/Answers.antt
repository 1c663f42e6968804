use Rattle.std.proofs.Common.{◌+◌, ◌*◌, ◌<◌, ◌≤◌, sym, ap, ◌∙◌, arith, subst, get_or}
use Rattle.ttx_monitor.specs.Streaks.{IsNoted}
use Rattle.ttx_monitor.proofs.FeedStreaks.{unnoted, bounds, as_counted, noted, none_reached, reached}
use Rattle.ttx_monitor.proofs.streaks.note.Goals as goal

pub returns-in_err-place-clause-streaks : goal.returns-in_err-place-clause-streaks
returns-in_err-place-clause-streaks c = λ w table feed k cyc t is sent a.
    unnoted w table feed c.args.pair.now.received.now (sym is ∙ c.in_err-place.was) c.args.cells.now.items a

pub returns-in_err-byte-clause-streaks : goal.returns-in_err-byte-clause-streaks
returns-in_err-byte-clause-streaks c = λ w table feed k cyc t is sent a.
    let slot = c.args.pair.now.received.now in
    let place = c.in_ok-place.place in
    let here = sym is ∙ c.in_ok-place.was in
    let b = bounds w table feed slot cyc t place here in
    noted w table feed slot place here b.0 b.1 c.text_of.result.0 c.text_of.result.1 c.text_of.ensures.few c.text_of.ensures.only
    c.args.cells.now.items c.count.new.cells.items a
    (as_counted w table feed slot place _ _ _ _ _ _ _ (ap (λ z. 1050 * place.page + 42 * z) c.from.ensures) k sent c.count.ensures.counted)

pub returns-in_err-byte-clause-noted : goal.returns-in_err-byte-clause-noted
returns-in_err-byte-clause-noted c = λ w table feed k some cyc t is sent a.
    let slot = c.args.pair.now.received.now in
    let place = c.in_ok-place.place in
    let here = sym is ∙ c.in_ok-place.was in
    let b = bounds w table feed slot cyc t place here in
    let at = ap (λ z. 1050 * place.page + 42 * z) c.from.ensures in
    subst (IsNoted w table _ _) (sym c.from_residual-in_err-byte.ensures)
    (none_reached w table feed slot place here b.0 b.1 c.text_of.result.0 c.text_of.result.1 c.text_of.ensures.few c.text_of.ensures.only
    c.args.cells.now.items c.count.new.cells.items a
    (as_counted w table feed slot place _ _ _ _ _ _ _ at k sent c.count.ensures.counted) (omega arith)
    (λ x from to.
    subst (λ z. get_or c.count.new.cells.items (z + x) 0 < w.repeat) at
    (subst (λ z. get_or c.count.new.cells.items (1050 * place.page + 42 * c.from.result + x) 0 < z) (sym k)
    (c.in_err-byte.ensures.reached x some from to))))

pub returns-clause-streaks : goal.returns-clause-streaks
returns-clause-streaks c = λ w table feed k cyc t is sent a.
    let slot = c.args.pair.now.received.now in
    let place = c.in_ok-place.place in
    let here = sym is ∙ c.in_ok-place.was in
    let b = bounds w table feed slot cyc t place here in
    noted w table feed slot place here b.0 b.1 c.text_of.result.0 c.text_of.result.1 c.text_of.ensures.few c.text_of.ensures.only
    c.args.cells.now.items c.count.new.cells.items a
    (as_counted w table feed slot place _ _ _ _ _ _ _ (ap (λ z. 1050 * place.page + 42 * z) c.from.ensures) k sent c.count.ensures.counted)

pub returns-clause-noted : goal.returns-clause-noted
returns-clause-noted c = λ w table feed k some cyc t is sent a.
    let slot = c.args.pair.now.received.now in
    let place = c.in_ok-place.place in
    let here = sym is ∙ c.in_ok-place.was in
    let b = bounds w table feed slot cyc t place here in
    let at = ap (λ z. 1050 * place.page + 42 * z) c.from.ensures in
    let told = c.in_ok-byte.ensures.reached in
    reached w table feed slot place here b.0 b.1 c.text_of.result.0 c.text_of.result.1 c.text_of.ensures.few c.text_of.ensures.only
    c.args.cells.now.items c.count.new.cells.items a
    (as_counted w table feed slot place _ _ _ _ _ _ _ at k sent c.count.ensures.counted) (omega arith)
    c.in_ok-byte.byte (c.text_of.ensures.text c.in_ok-byte.byte told.0 told.1)
    (subst (λ z. w.repeat ≤ get_or c.count.new.cells.items (z + c.in_ok-byte.byte) 0) at
    (subst (λ z. z ≤ get_or c.count.new.cells.items (1050 * place.page + 42 * c.from.result + c.in_ok-byte.byte) 0) (sym k) told.2))
    (λ y low lt. subst (λ z. get_or c.count.new.cells.items (z + y) 0 < w.repeat) at
    (subst (λ z. get_or c.count.new.cells.items (1050 * place.page + 42 * c.from.result + y) 0 < z) (sym k) (told.3 y some low lt)))
