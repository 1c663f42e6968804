use Rattle.std.proofs.Common.{rules, ◌≡◌, ℕ, ℤ, pos, ◌+ℤ◌, int_lt, unsigned_abs, true, false, Option, Some, None, is_some, if◌then◌else◌}
use Rattle.std.proofs.Common.{refl, sym, ap, ◌∙◌}
use Rattle.std.proofs.lemmas.Bool.{cond-true, cond-false}
use Rattle.ttx_certify.specs.declared.walks.page_facts.Heads.{Heads}
use Rattle.ttx_certify.specs.walks.PageFacts.{late_in, late_of}
use Rattle.ttx_certify.proofs.walks.page_facts.late_of.Goals as goal

noted_already : (limit : ℕ) (end : ℤ) (h : Heads) (o : Option ℕ) → is_some o ≡ true → o ≡ late_in limit end h o
noted_already limit end h None e = cc
noted_already limit end h (Some at) e = refl

not_noted : (limit : ℕ) (end : ℤ) (h : Heads) (o : Option ℕ) → is_some o ≡ false →
    late_in limit end h o ≡ (if int_lt (h.last +ℤ pos limit) end then Some (unsigned_abs h.last) else None)
not_noted limit end h None e = refl
not_noted limit end h (Some at) e = cc

pub returns-in_err-h : goal.returns-in_err-h
returns-in_err-h c = c.from_residual.ensures ∙ sym (ap (late_of c.args.limit c.args.period) c.in_err-h.was)

pub returns-then-is_some : goal.returns-then-is_some
returns-then-is_some c =
    let h = c.in_ok-h.h in
    noted_already c.args.limit (h.first +ℤ pos c.args.period) h h.late (sym c.is_some.ensures ∙ c.if-is_some.true)
    ∙ sym (ap (late_of c.args.limit c.args.period) c.in_ok-h.was)

pub returns-then-from : goal.returns-then-from
returns-then-from c =
    let h = c.in_ok-h.h in let end = h.first +ℤ pos c.args.period in
    let at : c.unsigned_abs.result ≡ unsigned_abs h.last = search rules in
    let is : int_lt (h.last +ℤ pos c.args.limit) end ≡ true = search rules in
    ap Some at ∙ sym (cond-true _ (Some (unsigned_abs h.last)) None is)
    ∙ sym (not_noted c.args.limit end h h.late (sym c.is_some.ensures ∙ c.if-is_some.false))
    ∙ sym (ap (late_of c.args.limit c.args.period) c.in_ok-h.was)

pub returns-else-from : goal.returns-else-from
returns-else-from c =
    let h = c.in_ok-h.h in let end = h.first +ℤ pos c.args.period in
    let is : int_lt (h.last +ℤ pos c.args.limit) end ≡ false = search rules in
    sym (cond-false _ (Some (unsigned_abs h.last)) None is)
    ∙ sym (not_noted c.args.limit end h h.late (sym c.is_some.ensures ∙ c.if-is_some.false))
    ∙ sym (ap (late_of c.args.limit c.args.period) c.in_ok-h.was)
