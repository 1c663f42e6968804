use Rattle.std.proofs.Common.{◌≡◌, ◌+◌, ◌-◌, ◌*◌, ◌<◌, ◌≤◌, ◌++◌, suc, length, ap, sym, ◌∙◌, subst, arith}
use Rattle.ttx_carousel.specs.Layout.{in_round, order_to}
use Rattle.ttx_carousel.specs.Orders.{AreBelow}
use Rattle.ttx_carousel.proofs.CarouselLayout.{below_order, longer_order}
use Rattle.ttx_carousel.proofs.layout.order.Goals as goal

pub returns-then-len-gt65536-clause-value : goal.returns-then-len-gt65536-clause-value
returns-then-len-gt65536-clause-value c =
    let n = c.loop-round.round in
    let standings = c.args.standings.now in
    let laps = c.args.laps in
    let all = 8 * laps * c.args.turns in
    let next : c.push_round.new.order.items ≡ order_to standings laps (suc n) =
    c.in_ok-push_round.ensures ∙ ap (λ xs. xs ++ in_round standings laps n (length standings)) c.loop-round.invariant.value in
    let more = longer_order standings laps (suc n) (all - suc n) in
    let size = ap length next in
    let sum : (all - suc n) + suc n ≡ all = omega (arith, c.loop-round-test.true) in
    let whole = ap (λ k. length (order_to standings laps k)) sum in
    omega (arith, more, size, whole, c.len.ensures, c.if-len-gt65536.true)

pub returns-clause-within : goal.returns-clause-within
returns-clause-within c =
    subst (AreBelow (length c.args.standings.now)) (sym c.loop-round.invariant.value)
    (below_order c.args.standings.now c.args.laps c.loop-round.round)
