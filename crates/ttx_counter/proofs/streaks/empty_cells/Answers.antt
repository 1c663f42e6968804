use Rattle.std.proofs.Common.{◌≡◌, ◌+◌, ◌++◌, ◌∷◌, [], ◌∙◌, if◌then◌else◌, length, get_or, sym, ap, subst}
use Rattle.std.proofs.lemmas.List.{length_push}
use Rattle.ttx_counter.specs.Cells.{streak_of}
use Rattle.ttx_counter.proofs.MappedLists.{same_more}
use Rattle.ttx_counter.proofs.streaks.empty_cells.Goals as goal

pub loop-i-preserved : goal.loop-i-preserved
loop-i-preserved c =
    let old = c.loop-i.cells.items in
    let never = streak_of 0 0 in
    let is = c.push.ensures.items ∙ ap (λ b. if b then old ++ never ∷ [] else old) c.if-is_err.ensures.negation in
    record {
      count = ap length is ∙ length_push old never ∙ ap (λ n. n + 1) c.loop-i.invariant.count;
      none = λ j. subst (λ l. get_or l j never ≡ never) (sym is) (same_more never old c.loop-i.invariant.none j);
    }
