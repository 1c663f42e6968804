use Rattle.std.proofs.Common.{◌≡◌, ◌+◌, ◌++◌, ◌∷◌, [], ◌∙◌, if◌then◌else◌, length, get_or, sym, ap, subst}
use Rattle.std.proofs.lemmas.List.{length_push}
use Rattle.ttx_counter.proofs.MappedLists.{same_more}
use Rattle.ttx_counter.proofs.streaks.zeros.Goals as goal

pub loop-i-preserved : goal.loop-i-preserved
loop-i-preserved c =
    let old = c.loop-i.zeros.items in
    let is = c.push.ensures.items ∙ ap (λ b. if b then old ++ 0 ∷ [] else old) c.if-is_err.ensures.negation in
    record {
      count = ap length is ∙ length_push old 0 ∙ ap (λ n. n + 1) c.loop-i.invariant.count;
      zero = λ j. subst (λ l. get_or l j 0 ≡ 0) (sym is) (same_more 0 old c.loop-i.invariant.zero j);
    }
