use Rattle.std.proofs.Common.{rules, ◌+◌, ◌<◌, ◌∙◌, length, take, ap, sym, arith}
use Rattle.std.specs.List.{count_by}
use Rattle.ttx_plan.specs.SubpageTurns.{has_smaller_subcode}
use Rattle.ttx_plan.proofs.SubpageLists.{as_number, listed_at, count_next, count_all}
use Rattle.ttx_plan.proofs.subpage_turns.rank.Goals as goal

pub loop-other-preserved : goal.loop-other-preserved
loop-other-preserved c =
    let here : c.loop-other.other < length c.args.service.now.pages =
    omega (arith, c.loop-other-test.true, c.pages-count_of_pages.ensures.count) in
    record {
      value = λ p e.
          let q = listed_at c.args.service.now.pages c.loop-other.other here in
          let next = count_next (has_smaller_subcode p) c.args.service.now.pages c.loop-other.other q.0 q.1 in
          ap (λ n. n + c.from-count.result) (c.loop-other.invariant.value p e)
          ∙ ap (λ n. count_by (has_smaller_subcode p) (take c.loop-other.other c.args.service.now.pages) + n)
          (as_number c.from-count.result c.has_smaller_subcode.result (has_smaller_subcode p q.0) c.from-count.ensures
          (c.has_smaller_subcode.ensures p q.0 e q.1))
          ∙ sym next;
      few = search rules;
    }

pub returns-clause-value : goal.returns-clause-value
returns-clause-value c = λ p e. c.loop-other.invariant.value p e
    ∙ count_all (has_smaller_subcode p) c.args.service.now.pages c.loop-other.other
    (omega (arith, c.loop-other-test.false, c.pages-count_of_pages.ensures.count))
