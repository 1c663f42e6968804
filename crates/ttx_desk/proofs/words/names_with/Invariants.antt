use Rattle.std.proofs.Common.{◌≡◌, ◌++◌, map}
use Rattle.ttx_desk.specs.Words.{names_from, names_with}
use Rattle.ttx_author.specs.Remedies.{options_with}
use Rattle.ttx_desk.proofs.words.names_with.Given as goal

abbrev pub invariant-loop-number : goal.invariant-loop-number
invariant-loop-number l = map (λ name. name.now) l.names.items ++ names_from l.fn.c l.number ≡ names_with l.fn.c
