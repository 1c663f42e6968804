use Rattle.std.proofs.Common.{rules, ◌+◌, ◌<◌, ◌∙◌, length, take, ap, sym, arith}
use Rattle.std.specs.List.{count_by}
use Rattle.ttx_plan.specs.SubpageTurns.{take_turns}
use Rattle.ttx_plan.proofs.SubpageLists.{as_number, listed_at, count_next, count_all, count_some, takes_own_turn}
use Rattle.ttx_plan.proofs.subpage_turns.count_of_turns.Goals as goal

pub loop-other-preserved : goal.loop-other-preserved
loop-other-preserved c =
    let here : c.loop-other.other < length c.args.service.now.pages =
    omega (arith, c.loop-other-test.true, c.pages-count_of_pages.ensures.count) in
    record {
      value = λ p e.
          let q = listed_at c.args.service.now.pages c.loop-other.other here in
          let next = count_next (take_turns p) c.args.service.now.pages c.loop-other.other q.0 q.1 in
          ap (λ n. n + c.from-count.result) (c.loop-other.invariant.value p e)
          ∙ ap (λ n. count_by (take_turns p) (take c.loop-other.other c.args.service.now.pages) + n)
          (as_number c.from-count.result c.take_turns.result (take_turns p q.0) c.from-count.ensures (c.take_turns.ensures p q.0 e q.1))
          ∙ sym next;
      few = search rules;
    }

pub returns-clause-value : goal.returns-clause-value
returns-clause-value c = λ p e. c.loop-other.invariant.value p e
    ∙ count_all (take_turns p) c.args.service.now.pages c.loop-other.other
    (omega (arith, c.loop-other-test.false, c.pages-count_of_pages.ensures.count))

pub returns-clause-some : goal.returns-clause-some
returns-clause-some c =
    let p = listed_at c.args.service.now.pages c.args.index c.requires in
    let value = c.loop-other.invariant.value p.0 p.1
    ∙ count_all (take_turns p.0) c.args.service.now.pages c.loop-other.other
    (omega (arith, c.loop-other-test.false, c.pages-count_of_pages.ensures.count)) in
    let some = count_some (take_turns p.0) c.args.service.now.pages c.args.index p.0 p.1 (takes_own_turn p.0) in
    omega (arith, value, some)
