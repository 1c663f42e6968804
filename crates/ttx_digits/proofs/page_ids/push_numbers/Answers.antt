use Rattle.std.proofs.Common.{◌+◌, ◌/◌, ◌%◌, [], ◌∷◌, ◌++◌, ◌∙◌, encode_utf8, string_bytes, ap, refl, arith}
use Rattle.ttx_digits.specs.Digits.{hex_byte}
use Rattle.ttx_digits.proofs.Pushed.{added_after, one_digit, low_digit}
use Rattle.ttx_digits.proofs.page_ids.push_numbers.Goals as goal

pub returns : goal.returns
returns c =
    let first = string_bytes c.push.new.self in
    let second = string_bytes c.push_byte.new.text in
    let third = string_bytes c.push-2.new.self in
    let page = hex_byte c.args.page in
    let high = hex_byte (c.args.sub / 256) in
    let low = hex_byte (c.args.sub % 256) in
    let sub = high ++ low in
    let digit = one_digit c.digit.result c.args.mag c.digit.ensures (omega (arith, c.requires)) c.push.ensures.ascii
    ∙ ap (λ byte. byte ∷ []) (low_digit c.args.mag c.requires) in
    let subcode = added_after _ _ (third ++ high) third high low sub refl c.push_subcode.ensures refl in
    let stroke = added_after _ _ third second (encode_utf8 47) sub (47 ∷ sub) c.in_ok-push-2.ensures.bytes subcode
    (ap (λ bytes. bytes ++ sub) (c.push-2.ensures.ascii (omega arith))) in
    let number = added_after _ _ second first page (47 ∷ sub) (page ++ 47 ∷ sub) c.in_ok-push_byte.ensures stroke refl in
    added_after _ _ first _ (encode_utf8 c.digit.result) (page ++ 47 ∷ sub) ((48 + c.args.mag) ∷ page ++ 47 ∷ sub) c.in_ok-push.ensures.bytes number
    (ap (λ bytes. bytes ++ (page ++ 47 ∷ sub)) digit)
