use Rattle.std.proofs.Common.{rules, ◌≡◌, ◌++◌, ◌∷◌, [], length, length-append, sym, subst, ap, ◌∙◌, ℕ, arith}
use Rattle.ttx_witness.specs.sent.Collected.{held}
use Rattle.ttx_witness.proofs.lemmas.sent.AllLists.{held_push}
use Rattle.ttx_witness.proofs.sent.collection.empty_lists.Goals as goal

pub loop-i-preserved : goal.loop-i-preserved
loop-i-preserved c =
    let e : c.push.new.self.items ≡ c.loop-i.lists.items ++ c.new.result ∷ [] = search rules in
    record {
      count = ap length e ∙ (let l = length-append c.loop-i.lists.items (c.new.result ∷ []) in let k = c.loop-i.invariant.count in omega arith);
      empty = subst (λ vs. (n : ℕ) → held vs n ≡ []) (sym e)
          (held_push c.loop-i.lists.items c.new.result c.new.ensures.items c.loop-i.invariant.empty);
    }
