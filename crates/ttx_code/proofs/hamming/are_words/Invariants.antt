use Rattle.std.proofs.Common.{◌≡◌, take}
use Rattle.std.specs.List.{list_all}
use Rattle.ttx_code.specs.Words.{is_word}
use Rattle.ttx_code.proofs.hamming.are_words.Given as goal

abbrev pub invariant-loop-i : goal.invariant-loop-i
invariant-loop-i l = l.all ≡ list_all is_word (take l.i l.bytes)
