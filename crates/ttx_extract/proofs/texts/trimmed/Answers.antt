use Rattle.std.proofs.Common.{◌≡◌, ◌<◌, ◌==◌, suc, ◌-◌, length, take, sym, ap, ◌∙◌, subst, arith}
use Rattle.ttx_extract.specs.ServiceTexts.{trimmed}
use Rattle.ttx_extract.proofs.Trimmed.{one_less, ends_here, none_left}
use Rattle.ttx_extract.proofs.texts.trimmed.Goals as goal
use Rattle.ttx_extract.proofs.texts.trimmed.Goals.{then-loop-end-test+else-characters-end-eq32, else-loop-end-test}

pub loop-end-preserved : goal.loop-end-preserved
loop-end-preserved c =
    let cs = c.args.characters.now in
    let n = c.loop-end.end - 1 in
    let lt : n < length cs = let w = c.loop-end.invariant.within in let t = c.loop-end-test.true in omega arith in
    let e : suc n ≡ c.loop-end.end = let t = c.loop-end-test.true in omega arith in
    record {
      within = let w = c.loop-end.invariant.within in omega arith;
      same = sym (one_less cs n lt (ap (λ x. x == 32) c.if-characters-end-eq32.true))
          ∙ subst (λ m. trimmed (take m cs) ≡ trimmed cs) (sym e) c.loop-end.invariant.same;
    }

pub returns : goal.returns
returns c = elim c.loop-end-test.branch [
  | then-loop-end-test+else-characters-end-eq32 w ↦
      let cs = c.args.characters.now in
      let n = c.loop-end.end - 1 in
      let lt : n < length cs = let i = c.loop-end.invariant.within in let t = w.loop-end-test.true in omega arith in
      let e : suc n ≡ c.loop-end.end = let t = w.loop-end-test.true in omega arith in
      subst (λ m. take m cs ≡ trimmed cs) e (sym (ends_here cs n lt w.if-characters-end-eq32.false)
      ∙ subst (λ m. trimmed (take m cs) ≡ trimmed cs) (sym e) c.loop-end.invariant.same)
  | else-loop-end-test w ↦
      let cs = c.args.characters.now in
      let e : c.loop-end.end ≡ 0 = let t = w.loop-end-test.false in omega arith in
      subst (λ m. take m cs ≡ trimmed cs) (sym e) (none_left cs ∙ subst (λ m. trimmed (take m cs) ≡ trimmed cs) e c.loop-end.invariant.same)
]
