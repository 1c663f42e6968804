use Rattle.std.proofs.Common.{◌≡◌, ◌++◌, ◌∷◌, [], ◌∙◌, if◌then◌else◌, length, get_or, sym, ap, subst, arith}
use Rattle.std.proofs.lemmas.List.{length_push}
use Rattle.ttx_counter.proofs.MappedLists.{same_more}
use Rattle.ttx_monitor.proofs.streaks.add_page.Goals as goal

pub loop-i-preserved : goal.loop-i-preserved
loop-i-preserved c =
    let old = c.loop-i.cells.items in
    let is = c.push.ensures.items ∙ ap (λ b. if b then old ++ 0 ∷ [] else old) c.if-is_err.ensures.negation in
    record {
      size = let l = ap length is ∙ length_push old 0 in let s = c.loop-i.invariant.size in omega arith;
      zero = λ j. subst (λ l. get_or l j 0 ≡ 0) (sym is) (same_more 0 old c.loop-i.invariant.zero j);
    }
