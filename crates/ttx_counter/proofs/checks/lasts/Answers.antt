use Rattle.std.proofs.Common.{◌≡◌, ◌*◌, ◌≤◌, ◌∙◌, ap, sym, subst}
use Rattle.std.proofs.lemmas.Bool.{leb-true, le-leb}
use Rattle.ttx_counter.proofs.checks.lasts.Goals as goal

pub returns : goal.returns
returns c =
    let product = c.from.result * c.from-2.result in
    let is : product ≡ c.args.deadline * c.args.lines =
    ap (λ d. d * c.from-2.result) c.from.ensures ∙ ap (λ l. c.args.deadline * l) c.from-2.ensures in (
      (λ lasts. subst (λ n. n ≤ c.args.slots) is (subst (λ n. product ≤ n) c.from-3.ensures (leb-true _ _ lasts))),
      (λ many. le-leb _ _ (subst (λ n. product ≤ n) (sym c.from-3.ensures) (subst (λ n. n ≤ c.args.slots) (sym is) many))),
    )
