use Rattle.std.proofs.Common.{refl, ap, ◌∙◌, subst}
use Rattle.std.specs.Option.{unwrap_or}
use Rattle.ttx_cycle.specs.Counters.{inner_of}
use Rattle.ttx_monitor.proofs.SteppedFeeds.{over}
use Rattle.ttx_row_monitor.specs.RowStepping.{IsRowPlaced}
use Rattle.ttx_row_monitor.proofs.SteppedRows.{comes, heard_next}
use Rattle.ttx_row_monitor.proofs.row_step.hear_next.Goals as goal

pub returns-in_default-clause-step : goal.returns-in_default-clause-step
returns-in_default-clause-step g c = λ w slots bytes st left.
    let o = over c.fill.new.self (g.R.Read.remaining (inner_of c.fill.new.feed)) bytes (c.in_ok-fill.ensures.left bytes left) c.in_default.ensures
    c.in_ok-fill.ensures.enough c.unwrap_or-rest.result (c.unwrap_or-rest.ensures ∙ ap (λ o. unwrap_or o 0) c.end.ensures) in
    (o.0, o.1, st)

pub returns-in-Some-shift-clause-step : goal.returns-in-Some-shift-clause-step
returns-in-Some-shift-clause-step g c = λ w slots bytes st left.
    let filled = c.in_ok-fill.ensures.left bytes left in
    let first = c.in-Some.ensures in
    let next = comes c.fill.new.self (g.R.Read.remaining (inner_of c.fill.new.feed)) bytes c.in-Some.slot filled first.1 first.0 in
    let placed = subst (IsRowPlaced w slots bytes c.in-Some.slot c.slip.new.self c.slip.new.ahead (g.R.Read.remaining (inner_of c.slip.new.feed)))
    c.in-Some-shift.is (c.in_ok-shift.ensures.placed w slots bytes st filled first.1) in
    (c.in-Some.slot, next.0, next.1, placed)

pub returns-in-Some-hear-clause-step : goal.returns-in-Some-hear-clause-step
returns-in-Some-hear-clause-step g c = λ w slots bytes st left.
    let filled = c.in_ok-fill.ensures.left bytes left in
    let first = c.in-Some.ensures in
    let next = comes c.fill.new.self (g.R.Read.remaining (inner_of c.fill.new.feed)) bytes c.in-Some.slot filled first.1 first.0 in
    let placed = subst (IsRowPlaced w slots bytes c.in-Some.slot c.slip.new.self c.slip.new.ahead (g.R.Read.remaining (inner_of c.slip.new.feed)))
    c.in_default-shift.is (c.in_ok-shift.ensures.placed w slots bytes st filled first.1) in
    (c.in-Some.slot, next.0, next.1, placed.0, c.in-Some-hear.ensures.heard w slots placed.1)

pub returns-in-None-clause-step : goal.returns-in-None-clause-step
returns-in-None-clause-step g c = λ w slots bytes st left.
    let filled = c.in_ok-fill.ensures.left bytes left in
    let first = c.in-Some.ensures in
    let placed = subst (IsRowPlaced w slots bytes c.in-Some.slot c.slip.new.self c.slip.new.ahead (g.R.Read.remaining (inner_of c.slip.new.feed)))
    c.in_default-shift.is (c.in_ok-shift.ensures.placed w slots bytes st filled first.1) in
    heard_next w slots bytes c.in-Some.slot c.slip.new.ahead c.pass.new.self (g.R.Read.remaining (inner_of c.slip.new.feed)) c.hear.new.self
    placed.2 placed.3 first.0 c.pass.ensures.waiting c.pass.ensures.end (c.in-None.ensures.stands w slots placed.1)
    (λ within. (c.in-None.ensures.first w slots placed.1 within).0 refl)
