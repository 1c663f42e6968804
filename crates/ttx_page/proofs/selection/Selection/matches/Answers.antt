use Rattle.std.proofs.Common.{◌≡◌, ◌∙◌, Bool, true, false, ◌&&◌, ◌==◌, refl, ap, sym}
use Rattle.ttx_page.specs.Pages.{matches}
use Rattle.ttx_page.proofs.selection.Selection.matches.Goals as goal

regrouped : (a b c : Bool) → (a && (b && c)) ≡ (a && b && c)
regrouped true b c = refl
regrouped false b c = refl

pub returns-in-Exact : goal.returns-in-Exact
returns-in-Exact c =
    let own = c.in-Exact.own in
    let id = c.args.id in
    c.eq.ensures ∙ regrouped (own.mag == id.mag) (own.page == id.page) (own.sub == id.sub)
    ∙ ap (λ selection. matches selection id) (sym c.in-Exact.is)
