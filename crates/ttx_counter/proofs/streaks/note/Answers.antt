use Rattle.std.proofs.Common.{◌≡◌, ◌+◌, ◌<◌, Some, get_or, sym, subst, arith}
use Rattle.std.specs.Prelude.{MatchOption, ⊤}
use Rattle.std.proofs.lemmas.List.{get_or_read}
use Rattle.ttx_counter.specs.Cells.{AreCounted, IsStreakReached, TellsSlot}
use Rattle.ttx_counter.proofs.streaks.note.Goals as goal
use Rattle.ttx_counter.proofs.NotedStreaks.{noted_none, noted}

pub returns-in_default-clause-noted : goal.returns-in_default-clause-noted
returns-in_default-clause-noted c = λ sent wrong a t.
    noted_none sent wrong _ _ _ _ c.args.hits.now.keys.now c.args.hits.now.from c.args.hits.now.to
    (subst (λ r. TellsSlot sent wrong r c.args.hits.now.keys.now c.args.hits.now.from c.args.hits.now.to c.args.n)
    c.in_default.is t) a

pub returns-clause-noted : goal.returns-clause-noted
returns-clause-noted c = λ sent wrong a t.
    let row = c.from-row.result in
    let old = c.args.streaks.now.latest.items in
    let known : c.in-Some.row < 25 = subst (λ r. MatchOption r ⊤ (λ x. x < 25)) c.in-Some.is c.requires.row in
    let inside : row < 25 = omega (arith, c.from-row.ensures) in
    let count = c.requires.rows in
    let is : c.index-latest.result.now ≡ get_or old row 0 = get_or_read old row c.index-latest.result.now (omega arith) c.index-latest.ensures 0 in
    let k = c.args.repeat in let keys = c.args.hits.now.keys.now in let cells = c.args.streaks.now.cells.items in
    noted c.count_hits.result sent wrong k c.args.n old cells c.count_hits.new.cells.items keys c.args.hits.now.from c.args.hits.now.to
    row inside count c.requires.some
    (λ e. subst (λ z. AreCounted row z (c.args.n + 1) k keys c.args.hits.now.from c.args.hits.now.to cells c.count_hits.new.cells.items)
    is (c.count_hits.ensures.counted e))
    (λ e. subst (λ z. IsStreakReached row z k keys c.args.hits.now.from c.args.hits.now.to cells) is (c.count_hits.ensures.over e))
    a (subst (λ r. TellsSlot sent wrong (Some r) keys c.args.hits.now.from c.args.hits.now.to c.args.n) (sym c.from-row.ensures)
    (subst (λ r. TellsSlot sent wrong r keys c.args.hits.now.from c.args.hits.now.to c.args.n) c.in-Some.is t))
