use Rattle.std.proofs.Common.{◌≡◌, string_bytes, take}
use Rattle.ttx_desk.proofs.texts.text_of.Given as goal

abbrev pub invariant-loop-code : goal.invariant-loop-code
invariant-loop-code l = string_bytes l.text ≡ take l.code-index l.codes
