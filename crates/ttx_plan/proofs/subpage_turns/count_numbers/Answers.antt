use Rattle.std.proofs.Common.{◌≡◌, ℕ, suc, ◌+◌, ◌<◌, ◌≤◌, ◌∙◌, Bool, true, false, eqb, length, cond, get_or, refl, ap, sym, arith}
use Rattle.std.proofs.lemmas.List.{length-set}
use Rattle.ttx_plan.specs.Spreading.{number_of}
use Rattle.ttx_plan.proofs.ListElements.{raised}
use Rattle.ttx_plan.proofs.SubpageLists.{listed_at, count_next}
use Rattle.ttx_plan.proofs.subpage_turns.count_numbers.Goals as goal

pub loop-index-init : goal.loop-index-init
loop-index-init c = record {
  length = c.no_numbers-numbers.ensures.length;
  value = λ n lt. c.no_numbers-numbers.ensures.zero n;
  few = λ n. let zero = c.no_numbers-numbers.ensures.zero n in omega (arith, zero);
}

pub loop-index-preserved : goal.loop-index-preserved
loop-index-preserved c =
    let here : c.loop-index.index < length c.args.service.now.pages =
    omega (arith, c.loop-index-test.true, c.pages-count_of_pages.ensures.count) in
    let p = listed_at c.args.service.now.pages c.loop-index.index here in
    let number : c.number_of-number.result ≡ number_of p.0 = c.number_of-number.ensures.value p.0 p.1 in
    let within : c.number_of-number.result < length c.loop-index.numbers =
    omega (arith, c.number_of-number.ensures.few, c.loop-index.invariant.length) in
    record {
      length = length-set c.loop-index.numbers c.number_of-number.result (get_or c.loop-index.numbers c.number_of-number.result 0 + 1)
          ∙ c.loop-index.invariant.length;
      value = λ n lt.
          let next = count_next (λ q. eqb (number_of q) n) c.args.service.now.pages c.loop-index.index p.0 p.1 in
          raised c.loop-index.numbers c.number_of-number.result n (get_or c.loop-index.numbers n 0) within refl
          ∙ ap (λ m. cond (eqb m n) (suc (get_or c.loop-index.numbers n 0)) (get_or c.loop-index.numbers n 0)) number
          ∙ added (eqb (number_of p.0) n) (get_or c.loop-index.numbers n 0)
          ∙ ap (λ k. k + cond (eqb (number_of p.0) n) 1 0) (c.loop-index.invariant.value n lt) ∙ sym next;
      few = λ n.
          let now = raised c.loop-index.numbers c.number_of-number.result n _ within refl in
          omega (arith, now, at_most (eqb c.number_of-number.result n) (get_or c.loop-index.numbers n 0), c.loop-index.invariant.few n);
    }
  where
    added : (b : Bool) (s : ℕ) → cond b (suc s) s ≡ s + cond {A = ℕ} b 1 0
    added true s = omega arith
    added false s = omega arith

    at_most : (b : Bool) (s : ℕ) → cond b (suc s) s ≤ s + 1
    at_most true s = omega arith
    at_most false s = omega arith
