use Rattle.std.proofs.Common.{◌-◌, nat_le, Some, None, if◌then◌else◌, ap, sym, arith}
use Rattle.std.proofs.lemmas.Bool.{and_from, le-leb}
use Rattle.ttx_digits.specs.Digits.{decimal_in}
use Rattle.ttx_digits.proofs.decimals.decimal_in.Goals as goal

pub returns-in-48-to-57-clause-value : goal.returns-in-48-to-57-clause-value
unfolding decimal_in
returns-in-48-to-57-clause-value c =
    let byte = c.args.byte in
    ap (λ is. if is then Some (byte - 48) else None)
    (sym (and_from (nat_le 48 byte) (nat_le byte 57) (le-leb 48 byte (omega arith)) (le-leb byte 57 (omega arith))))

pub returns-in-48-to-57-clause-range : goal.returns-in-48-to-57-clause-range
returns-in-48-to-57-clause-range c = omega arith
