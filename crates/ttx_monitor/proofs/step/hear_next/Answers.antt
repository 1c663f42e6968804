use Rattle.std.proofs.Common.{None, ap, ◌∙◌, inl}
use Rattle.std.specs.Option.{unwrap_or}
use Rattle.ttx_cycle.specs.Counters.{inner_of}
use Rattle.ttx_monitor.proofs.SteppedFeeds.{over, next_heard}
use Rattle.ttx_monitor.proofs.step.hear_next.Goals as goal

pub returns-in_default-clause-step : goal.returns-in_default-clause-step
returns-in_default-clause-step g c = λ w slots bytes st left.
    let o = over c.fill.new.self (g.R.Read.remaining (inner_of c.fill.new.feed)) bytes (c.in_ok-fill.ensures.left bytes left) c.in_default.ensures
    c.in_ok-fill.ensures.enough c.unwrap_or-rest.result (c.unwrap_or-rest.ensures ∙ ap (λ o. unwrap_or o 0) c.end.ensures) in
    (o.0, o.1, st)

pub returns-clause-step : goal.returns-clause-step
returns-clause-step g c = λ w slots bytes st left.
    let first = c.in-Some.ensures in
    let p = c.in_ok-shift.ensures.placed w slots bytes st (c.in_ok-fill.ensures.left bytes left) first.1 in
    next_heard w slots bytes c.in-Some.slot c.shift_at.new.monitor c.shift_at.new.ahead
    (g.R.Read.remaining (inner_of c.shift_at.new.feed)) c.in_ok-shift.shift p first.0 c.event_of-event.new.monitor c.pass-2.new.self
    c.event_of-event.result c.pass-2.ensures.waiting c.pass-2.ensures.end (c.event_of-event.ensures _ _ p.stands)

pub returns-then-is_right-clause-step : goal.returns-then-is_right-clause-step
returns-then-is_right-clause-step g c = λ w slots bytes st left.
    let first = c.in-Some.ensures in
    let slot = c.in-Some.slot in
    let right = c.is_right.ensures w slots st c.if-is_right.true in
    next_heard w slots bytes slot c.args.monitor.now c.fill.new.self (g.R.Read.remaining (inner_of c.fill.new.feed)) None
    (record { told = inl right.may; stands = st; left = c.in_ok-fill.ensures.left bytes left; begins = first.1 })
    first.0 c.right_event-event.new.monitor c.pass.new.self c.right_event-event.result c.pass.ensures.waiting c.pass.ensures.end
    (c.right_event-event.ensures w slots slot st right)
