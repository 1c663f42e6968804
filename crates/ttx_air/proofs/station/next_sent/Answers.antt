use Rattle.std.proofs.Common.{◌≡◌, ◌+◌, ◌∷◌, suc, length, arith, rules}
use Rattle.ttx_air.proofs.OneSlotMore.{so_far_amid, so_far_end}
use Rattle.ttx_air.proofs.station.next_sent.Goals as goal

pub returns-then-is_between-clause-so_far : goal.returns-then-is_between-clause-so_far
returns-then-is_between-clause-so_far g c = λ gone first begin past slots is so_far.
    let terms = c.args.terms in
    let e = c.next_slot-slot.ensures in
    let end = c.is_between.ensures.0 c.if-is_between.true in
    let ended = c.period_ended.ensures.ending in
    let number : c.args.station.now.sent + 1 ≡ suc (length slots) = omega (arith, is) in (
      ended.0 ∷ past,
      so_far_end g.N.Newsroom.gives terms.receivers (g.C.Clock.shows terms.clock) terms.lines terms.started first gone begin past slots c.next_slot-slot.result c.args.station.now.on_air
          c.next_slot-slot.new.self c.args.newsroom.now _ so_far e.same e.place e.held e.on_air end c.period_ended.new.station.on_air
          c.period_ended.new.newsroom _ ended.0 (c.args.station.now.sent + 1) number ended.1 ended.2 ended.3,
    )

pub returns-else-is_between-clause-so_far : goal.returns-else-is_between-clause-so_far
returns-else-is_between-clause-so_far g c = λ gone first begin past slots is so_far.
    let terms = c.args.terms in
    let e = c.next_slot-slot.ensures in (
      past,
      so_far_amid g.N.Newsroom.gives terms.receivers (g.C.Clock.shows terms.clock) terms.lines terms.started first gone begin past slots c.next_slot-slot.result c.args.station.now.on_air
          c.next_slot-slot.new.self c.args.newsroom.now _ so_far e.same e.place e.held e.on_air (λ end. search rules),
    )
