use Rattle.std.proofs.Common.{◌≡◌, ◌++◌, ◌∷◌, drop, flat_map, string_bytes}
use Rattle.ttx_extract.specs.ServiceTexts.{escape}
use Rattle.ttx_extract.proofs.texts.push_quoted.Given as goal

abbrev pub invariant-loop-code : goal.invariant-loop-code
invariant-loop-code l = string_bytes l.text ++ flat_map escape (drop l.code-index l.characters) ≡ string_bytes l.fn.text ++ 34 ∷ flat_map escape l.characters
