use Rattle.std.proofs.Common.{◌≡◌, ◌∙◌, ◌+◌, ◌-◌, ◌≤◌, suc, length, take, drop, sym, ap, arith}
use Rattle.std.specs.List.{list_all}
use Rattle.ttx_proof.specs.NamedStarts.{stands_at_start}
use Rattle.ttx_proof.proofs.CountingRuns.{counts_at}
use Rattle.ttx_proof.proofs.run_order.counts.Goals as goal

pub returns-then-has : goal.returns-then-has
returns-then-has c =
    let some = c.requires.some in
    let e : suc (c.args.repeat - 1) ≡ c.args.repeat = omega arith in
    let le : suc (c.args.repeat - 1) ≤ length c.args.sent.now - c.args.at = let f = c.if-repeat-sent.false in omega arith in
    let n : c.args.at + c.args.repeat - c.args.at ≡ suc (c.args.repeat - 1) = omega arith in
    c.are_sure.ensures ∙ ap (λ m. list_all (λ t. t.sure) (take m (drop c.args.at c.args.sent.now))) n ∙
    sym (counts_at (stands_at_start c.args.starts.now) (c.args.repeat - 1) c.args.sent.now c.args.at _ c.requires.at le
    (sym c.has.ensures ∙ c.if-has.true))
