use Rattle.std.proofs.Common.{◌≡◌, ◌∙◌, ◌<◌, Bool, true, false, ◌&&◌, nat_le, vec_len, refl, ap, sym, subst, eqb-true}
use Rattle.std.proofs.lemmas.Bool.{lt-leb}
use Rattle.ttx_cycle.proofs.cycles.Cycle.of.Goals as goal
use Rattle.ttx_cycle.proofs.cycles.Cycle.of.Goals.{then-is_empty-via-then-is_empty, then-is_empty-via-else-is_empty+then-len-gt-MOST}

and_false : (b : Bool) → false ≡ (b && false)
and_false true = refl
and_false false = refl

pub returns-then-is_empty-clause-some : goal.returns-then-is_empty-clause-some
returns-then-is_empty-clause-some c =
    let n = vec_len c.args.slots in
    elim c.then-is_empty.branch as (λ _. false ≡ (nat_le 1 n && nat_le n 65536)) [
      | then-is_empty-via-then-is_empty w ↦
          ap (λ count. nat_le 1 count && nat_le count 65536) (sym (eqb-true n 0 (sym c.is_empty.ensures ∙ w.if-is_empty.true)))
      | then-is_empty-via-else-is_empty+then-len-gt-MOST w ↦
          and_false (nat_le 1 n)
          ∙ ap (λ few. nat_le 1 n && few) (sym (lt-leb n 65536 (subst (λ count. 65536 < count) w.len.ensures w.if-len-gt-MOST.true)))
    ]
