use Rattle.std.proofs.Common.{◌≡◌, true, false, sym, ◌∙◌, arith}
use Rattle.ttx_render.proofs.compare.same_but_clock.Goals as goal
use Rattle.ttx_render.proofs.compare.same_but_clock.Goals.{then-not-same_links-via-then-not-same_links}
use Rattle.ttx_render.proofs.compare.same_but_clock.Goals.{then-not-same_links-via-else-not-same_links+then-not-same_cells}

pub returns-then-not-same_links : goal.returns-then-not-same_links
returns-then-not-same_links c = (
  (λ no. absurd (cc)),
  (λ same. elim c.then-not-same_links.branch as (λ _. false ≡ true) [
    | then-not-same_links-via-then-not-same_links w ↦ sym w.if-not-same_links.true ∙ c.same_links.ensures.1 same.links
    | then-not-same_links-via-else-not-same_links+then-not-same_cells w ↦ sym w.if-not-same_cells.true
        ∙ w.same_cells.ensures.1 (λ k from to. same.cells 0 k (omega arith, omega arith, λ _. (from, to)))
  ]),
)
