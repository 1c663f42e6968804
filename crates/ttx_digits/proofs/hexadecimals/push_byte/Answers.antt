use Rattle.std.proofs.Common.{◌/◌, ◌%◌, ◌++◌, encode_utf8, string_bytes, ap₂, arith, refl}
use Rattle.ttx_digits.proofs.Pushed.{added, added_after, one_digit}
use Rattle.ttx_digits.proofs.hexadecimals.push_byte.Goals as goal

pub returns : goal.returns
returns c =
    let mid = string_bytes c.push.new.self in
    let a = encode_utf8 c.digit.result in
    let b = encode_utf8 c.digit-2.result in
    let high = one_digit c.digit.result (c.args.byte / 16) c.digit.ensures (omega (arith, c.ranges.byte.fits)) c.push.ensures.ascii in
    let low = one_digit c.digit-2.result (c.args.byte % 16) c.digit-2.ensures (omega arith) c.push-2.ensures.ascii in
    added_after _ _ mid _ a b _ c.in_ok-push.ensures.bytes (added _ _ mid b b c.push-2.ensures.bytes refl) (ap₂ (λ x y. x ++ y) high low)
