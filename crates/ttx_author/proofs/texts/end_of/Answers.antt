use Rattle.std.proofs.Common.{◌≡◌, ◌∙◌, ◌<◌, ◌≤◌, List, ◌-◌, ◌++◌, ◌∷◌, [], ℕ, suc, arith, ap, sym, get_or, length, take, false, ◌==◌}
use Rattle.std.proofs.Math.Seq.{take-suc}
use Rattle.std.proofs.lemmas.Bool.{ne_eqb}
use Rattle.ttx_author.specs.Texts.{before_spaces}
use Rattle.ttx_author.proofs.Inverse.{before_spaces-more, before_spaces-other, before_spaces-none}
use Rattle.ttx_author.proofs.texts.end_of.Goals as goal

-- the last of some codes
last-code : (codes : List ℕ) (end : ℕ) → 0 < end → end ≤ length codes → take end codes ≡ take (end - 1) codes ++ get_or codes (end - 1) 0 ∷ []
last-code codes end some inside =
    let next : end ≡ suc (end - 1) = omega arith in
    ap (λ n. take n codes) next ∙ take-suc codes (end - 1) 0 (omega arith)

pub loop-end-preserved : goal.loop-end-preserved
loop-end-preserved c =
    let codes = c.args.codes.now in
    let end = c.loop-end.end in
    let space : get_or codes (end - 1) 0 ≡ 0x20 = c.if-codes-end-eq32.true in
    record {
      within = omega arith;
      codes =
          sym (before_spaces-more (take (end - 1) codes))
          ∙ ap (λ n. before_spaces (take (end - 1) codes ++ n ∷ [])) (sym space)
          ∙ ap before_spaces (sym (last-code codes end c.loop-end-test.true c.loop-end.invariant.within))
          ∙ c.loop-end.invariant.codes;
    }

pub returns-else-codes-end-eq32-clause-codes : goal.returns-else-codes-end-eq32-clause-codes
returns-else-codes-end-eq32-clause-codes c =
    let codes = c.args.codes.now in
    let end = c.loop-end.end in
    let last = last-code codes end c.loop-end-test.true c.loop-end.invariant.within in
    let other : (get_or codes (end - 1) 0 == 0x20) ≡ false = ne_eqb (get_or codes (end - 1) 0) 0x20 c.if-codes-end-eq32.false in
    last ∙ sym (before_spaces-other (take (end - 1) codes) (get_or codes (end - 1) 0) other) ∙ ap before_spaces (sym last) ∙ c.loop-end.invariant.codes

pub returns-after-loop-end-clause-codes : goal.returns-after-loop-end-clause-codes
returns-after-loop-end-clause-codes c =
    let none : c.loop-end.end ≡ 0 = omega arith in
    ap (λ n. take n c.args.codes.now) none ∙ sym before_spaces-none ∙ ap (λ n. before_spaces (take n c.args.codes.now)) (sym none) ∙ c.loop-end.invariant.codes
