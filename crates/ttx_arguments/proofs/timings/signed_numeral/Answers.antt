use Rattle.std.proofs.Common.{◌≡◌, ◌<◌, ◌∙◌, Some, subst, ap, w32, to_z, of_z, rules}
use Rattle.std.specs.Prelude.{unsigned_abs}
use Rattle.ttx_arguments.proofs.Numerals.{signed_small, signed_none}
use Rattle.ttx_arguments.proofs.timings.signed_numeral.Goals as goal

pub returns-in-Ok : goal.returns-in-Ok
returns-in-Ok c =
    let said = c.in-Ok.ensures.value.0 in
    let same : to_z w32 (of_z w32 c.in-Ok.number) ≡ c.in-Ok.number = search rules in
    let small : unsigned_abs c.in-Ok.number < 1000 =
    subst (λ n. unsigned_abs n < 1000) same (subst (λ n. n < 1000) c.unsigned_abs.ensures.value c.if-unsigned_abs-lt1000.true) in
    ap Some same ∙ signed_small c.args.text.now _ said.0 said.1 small

pub returns-in_default-2 : goal.returns-in_default-2
returns-in_default-2 c = signed_none c.args.text.now c.in_default.ensures.value.0
