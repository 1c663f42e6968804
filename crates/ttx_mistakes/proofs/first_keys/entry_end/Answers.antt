use Rattle.std.proofs.Common.{◌∙◌, ◌-◌, suc, length, ap, sym, refl, rules, arith}
use Rattle.ttx_mistakes.specs.FirstKeys.{depth_after}
use Rattle.ttx_mistakes.proofs.FirstEntries.{entry_stop, entry_more, entry_out}
use Rattle.ttx_mistakes.proofs.first_keys.entry_end.Goals as goal

pub loop-token-init : goal.loop-token-init
loop-token-init c = (search rules, suc (length c.args.s.now), omega arith, refl)

pub returns-then-ends_here : goal.returns-then-ends_here
returns-then-ends_here c =
    let l = c.loop-token in
    let m = l.invariant.1 in
    let count = l.invariant.2 in
    entry_stop c.args.inline m l.depth l.rest.now c.token_start-start.result.now (omega arith) c.token_start-start.ensures
    (sym c.ends_here.ensures ∙ c.if-ends_here.true)
    ∙ l.invariant.3

pub loop-token-preserved : goal.loop-token-preserved
loop-token-preserved c =
    let l = c.loop-token in
    let m = l.invariant.1 in
    let count = l.invariant.2 in (
      search rules,
      m - 1,
      omega arith,
      entry_more c.args.inline m (m - 1) l.depth c.in_ok-depth.depth l.rest.now c.token_start-start.result.now c.in_ok-rest.rest.now
          (omega arith) c.token_start-start.ensures (sym c.ends_here.ensures ∙ c.if-ends_here.false)
          (c.in_ok-depth.ensures ∙ ap (λ b. depth_after l.depth b) c.first.ensures)
          c.in_ok-rest.ensures
          ∙ l.invariant.3,
    )

pub returns : goal.returns
returns c =
    let l = c.loop-token in
    let count = l.invariant.2 in
    sym (entry_out c.args.inline l.invariant.1 l.depth l.rest.now (omega arith)) ∙ l.invariant.3
