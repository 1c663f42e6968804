use Rattle.std.proofs.Common.{◌≡◌, false, drop}
use Rattle.ttx_kinds.specs.Texts.{after_blank}
use Rattle.ttx_kinds.proofs.texts.after_blank.Given as goal

abbrev pub invariant-loop-i : goal.invariant-loop-i
invariant-loop-i l = after_blank l.is_comment (drop l.i l.bytes) ≡ after_blank false l.bytes
