use Rattle.std.proofs.Common.{◌≡◌, ◌∙◌, ◌-◌, suc, length, true, false, nat_le, ap, sym, refl, rules, arith}
use Rattle.std.proofs.lemmas.Bool.Decides.{nat_tests}
use Rattle.std.proofs.lemmas.Grind.{common_steps}
use Rattle.ttx_mistakes.specs.FirstKeys.{depth_after}
use Rattle.ttx_mistakes.proofs.FirstEntries.{brackets_stop, brackets_more, brackets_out}
use Rattle.ttx_mistakes.proofs.first_keys.brackets_at.Goals as goal

pub loop-token-init : goal.loop-token-init
loop-token-init c = (search rules, search rules, suc (length c.args.s.now), omega arith, refl)

pub returns-then-start-stop : goal.returns-then-start-stop
returns-then-start-stop c =
    let l = c.loop-token in
    let past : nat_le (length c.skip_blank-start.result.now) c.args.stop ≡ true = grind (arith, nat_tests, common_steps) in
    sym (brackets_stop c.args.wanted c.args.stop l.invariant.2 l.depth l.inside.now l.rest.now c.skip_blank-start.result.now
    c.skip_blank-start.ensures.rest past)
    ∙ l.invariant.4

pub loop-token-preserved : goal.loop-token-preserved
loop-token-preserved c =
    let l = c.loop-token in
    let m = l.invariant.2 in
    let count = l.invariant.3 in
    let goes : nat_le (length c.skip_blank-start.result.now) c.args.stop ≡ false = grind (arith, nat_tests, common_steps) in (
      search rules,
      search rules,
      m - 1,
      omega arith,
      brackets_more c.args.wanted c.args.stop m (m - 1) l.depth c.in_ok-depth.depth l.inside.now c.inside_after-inside.result.now l.rest.now
          c.skip_blank-start.result.now c.in_ok-rest.rest.now (omega arith) c.skip_blank-start.ensures.rest goes
          (c.in_ok-depth.ensures ∙ ap (λ b. depth_after l.depth b) c.first.ensures)
          c.inside_after-inside.ensures
          c.in_ok-rest.ensures
          ∙ l.invariant.4,
    )

pub returns : goal.returns
returns c =
    let l = c.loop-token in
    let count = l.invariant.3 in
    sym (brackets_out c.args.wanted c.args.stop l.invariant.2 l.depth l.inside.now l.rest.now (omega arith)) ∙ l.invariant.4
