use Rattle.std.proofs.Common.{◌≡◌, ◌%◌, ◌++◌, OnOk, string_bytes, subst}
use Rattle.ttx_digits.specs.Digits.{hex_byte}
use Rattle.ttx_digits.proofs.hexadecimals.push_subcode.Goals as goal

pub returns : goal.returns
returns c =
    subst (λ first. OnOk c.push_byte-2.result (string_bytes c.push_byte-2.new.text ≡ first ++ hex_byte (c.args.sub % 256)))
    c.in_ok-push_byte.ensures c.push_byte-2.ensures
