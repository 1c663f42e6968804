use Rattle.std.proofs.Common.{rules, ◌≡◌, ◌+◌, ◌∙◌, length, ap, sym, arith}
use Rattle.ttx_plan.specs.SubpageTurns.{count_below, is_earlier_mate}
use Rattle.ttx_plan.proofs.SubpageLists.{as_number, below_next}
use Rattle.ttx_plan.proofs.subpage_turns.mates_so_far.Goals as goal

pub loop-other-preserved : goal.loop-other-preserved
loop-other-preserved c = record {
  value = λ p e.
      ap (λ n. n + c.from-count.result) (c.loop-other.invariant.value p e)
      ∙ ap (λ n. count_below c.loop-other.other (is_earlier_mate c.args.service.now.pages c.args.places.now c.args.index p c.args.round) + n)
      (as_number c.from-count.result c.is_earlier_mate.result
      (is_earlier_mate c.args.service.now.pages c.args.places.now c.args.index p c.args.round c.loop-other.other)
      c.from-count.ensures (c.is_earlier_mate.ensures p e))
      ∙ sym (below_next c.loop-other.other (is_earlier_mate c.args.service.now.pages c.args.places.now c.args.index p c.args.round));
  few = search rules;
}

pub returns-clause-value : goal.returns-clause-value
returns-clause-value c = λ p e.
    let end : c.loop-other.other ≡ length c.args.service.now.pages =
    omega (arith, c.loop-other-test.false, c.loop-other.auto, c.pages-count_of_pages.ensures.count) in
    c.loop-other.invariant.value p e
    ∙ ap (λ n. count_below n (is_earlier_mate c.args.service.now.pages c.args.places.now c.args.index p c.args.round)) end
