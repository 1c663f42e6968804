use Rattle.std.proofs.Common.{◌≡◌, ◌∙◌, ℕ, None, Option, replicate, ap, arith}
use Rattle.ttx_witness.proofs.faults.other_subpages.none_told.Goals as goal

pub returns : goal.returns
returns c =
    let e : c.loop-i.i ≡ 2048 = omega (arith, c.loop-i-test.false, c.loop-i.auto.i-end) in
    c.loop-i.invariant.none ∙ ap (λ n. replicate {A = Option ℕ} n None) e
