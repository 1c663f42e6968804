use Rattle.std.proofs.Common.{◌≡◌, ◌≤◌, ◌+◌, ◌∙◌, ℕ, suc, Bool, List, drop, ap, sym, arith}
use Rattle.ttx_places.specs.Signs.{after_signs, sign_size}
use Rattle.ttx_places.proofs.signs.after_signs.Goals as goal

abbrev skip : Bool → List ℕ → List ℕ
skip basic text = drop (sign_size basic text) text

after_next : (basic : Bool) (n : ℕ) (text : List ℕ) → after_signs basic (n + 1) text ≡ skip basic (after_signs basic n text)
after_next basic n text = let more : n + 1 ≡ suc n = omega arith in ap (λ k. after_signs basic k text) more

pub loop-sign-preserved : goal.loop-sign-preserved
loop-sign-preserved c =
    let basic = c.args.basic in
    let text = c.args.text.now in
    let l = c.loop-sign in
    record {
      rest = c.skipped-rest.ensures.rest ∙ ap (λ s. drop s l.rest.now) c.sign_size.ensures
          ∙ ap (skip basic) l.invariant.rest ∙ sym (after_next basic l._sign text);
      within = (let a = c.skipped-rest.ensures.within in let b = l.invariant.within in omega arith);
    }
