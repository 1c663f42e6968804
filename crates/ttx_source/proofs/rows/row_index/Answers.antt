use Rattle.std.proofs.Common.{◌≡◌, ◌∙◌, Some, ap, arith, sym}
use Rattle.ttx_digits.specs.Digits.{number_in_word}
use Rattle.ttx_source.proofs.RowKeys.{is_key, key_at, no_key}
use Rattle.ttx_source.proofs.ShortNumbers.{number_if_short, short_is_number, no_short_key}
use Rattle.ttx_source.proofs.rows.row_index.Goals as goal

pub returns-in-Some-clause-among : goal.returns-in-Some-clause-among
returns-in-Some-clause-among c =
    let read : number_in_word c.args.key.now ≡ Some c.in-Some.row = short_is_number c.args.key.now _ (ap number_if_short (sym c.as_bytes.ensures.value) ∙ sym c.short_number.ensures ∙ c.in-Some.is) in
    sym (is_key c.read_numbers_are_written.ensures _ _ read c.if-row-ge1.true c.if-row-le24.true)

pub returns-in-Some-clause-place : goal.returns-in-Some-clause-place
returns-in-Some-clause-place c =
    let read : number_in_word c.args.key.now ≡ Some c.in-Some.row = short_is_number c.args.key.now _ (ap number_if_short (sym c.as_bytes.ensures.value) ∙ sym c.short_number.ensures ∙ c.in-Some.is) in
    (omega (arith, c.if-row-ge1.true, c.if-row-le24.true), key_at c.read_numbers_are_written.ensures _ _ read c.if-row-ge1.true c.if-row-le24.true)

pub returns-in_default-clause-among : goal.returns-in_default-clause-among
returns-in_default-clause-among c =
    let read : number_in_word c.args.key.now ≡ Some c.in-Some.row = short_is_number c.args.key.now _ (ap number_if_short (sym c.as_bytes.ensures.value) ∙ sym c.short_number.ensures ∙ c.in-Some.is) in
    sym (no_key c.args.key.now (Some c.in-Some.row) read (λ r within same. omega (arith, same, within, c.if-row-le24.false)))

pub returns-in_default-2-clause-among : goal.returns-in_default-2-clause-among
returns-in_default-2-clause-among c =
    let read : number_in_word c.args.key.now ≡ Some c.in-Some.row = short_is_number c.args.key.now _ (ap number_if_short (sym c.as_bytes.ensures.value) ∙ sym c.short_number.ensures ∙ c.in-Some.is) in
    sym (no_key c.args.key.now (Some c.in-Some.row) read (λ r within same. omega (arith, same, within, c.if-row-ge1.false)))

pub returns-in_default-3-clause-among : goal.returns-in_default-3-clause-among
returns-in_default-3-clause-among c =
    sym (no_short_key c.args.key.now (ap number_if_short (sym c.as_bytes.ensures.value) ∙ sym c.short_number.ensures ∙ c.in_default.is))
