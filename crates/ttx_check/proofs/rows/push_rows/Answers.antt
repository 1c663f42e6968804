use Rattle.std.proofs.Common.{◌≡◌, ◌∙◌, ◌++◌, ap, sym, refl, append-nil, arith}
use Rattle.std.proofs.lemmas.Grind.{common_steps}
use Rattle.ttx_page.specs.Views.{page_of}
use Rattle.ttx_check.specs.PageWarnings.{row_warnings_to}
use Rattle.ttx_check.proofs.rows.push_rows.Goals as goal

pub loop-above-init : goal.loop-above-init
unfolding row_warnings_to
loop-above-init c = record { found = sym (append-nil c.args.found.now.items); hidden = refl }

pub loop-above-preserved : goal.loop-above-preserved
unfolding row_warnings_to
loop-above-preserved c = record {
  found = grind (arith, common_steps, c.in_ok-push_row.ensures, c.loop-above.invariant.found);
  hidden = c.hides-hidden.ensures;
}

pub returns : goal.returns
returns c =
    let last : c.loop-above.above ≡ 24 = omega arith in
    c.loop-above.invariant.found ∙ ap (λ n. c.args.found.now.items ++ row_warnings_to (page_of c.args.page.now) n) last
