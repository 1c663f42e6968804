use Rattle.std.proofs.Common.{◌≤◌, length, refl, arith, lt-ltb, ◌<◌}
use Rattle.std.specs.Str.{chars}
use Rattle.ttx_source.specs.Values.{characters}
use Rattle.ttx_source.proofs.Plain.{many_bytes, not_more}
use Rattle.ttx_source.proofs.texts.long_fault.Goals as goal

pub returns-then-char_count-most : goal.returns-then-char_count-most
unfolding characters
returns-then-char_count-most c =
    let many : c.args.most < length (chars c.args.text.now) = omega (arith, c.if-char_count-most.true, c.char_count.ensures) in
    rw (lt-ltb _ _ many) refl

pub returns-else-char_count-most : goal.returns-else-char_count-most
unfolding characters
returns-else-char_count-most c =
    let few : length (chars c.args.text.now) ≤ c.args.most = omega (arith, c.if-char_count-most.false, c.char_count.ensures) in
    rw (not_more _ _ few, many_bytes c.args.text.now c.args.most c.requires few) refl
