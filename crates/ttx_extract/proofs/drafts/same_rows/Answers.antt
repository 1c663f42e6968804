use Rattle.std.proofs.Common.{◌≤◌, length, sym, refl, ◌∙◌, arith}
use Rattle.ttx_extract.proofs.SameLists.{all_same}
use Rattle.ttx_extract.proofs.drafts.same_rows.Goals as goal

pub returns : goal.returns
returns c =
    let a = c.args.a.now in
    let v = c.loop-i.invariant in
    let past : length a ≤ c.loop-i.i = let s = v.a in let t = c.loop-i-test.false in omega arith in
    (λ t. all_same a c.args.b.now c.loop-i.i past (v.a ∙ sym v.b) v.same, λ e. refl)
