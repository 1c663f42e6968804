use Rattle.std.proofs.Common.{◌≡◌, ◌++◌, string_bytes}
use Rattle.std.specs.Str.Iter.{chars_rest}
use Rattle.ttx_places.specs.Paths.{escaped, below}
use Rattle.ttx_places.proofs.keys.push_part.Given as goal

abbrev pub invariant-loop-sign : goal.invariant-loop-sign
invariant-loop-sign l = string_bytes l.path ++ escaped (chars_rest l.sign-iterator) ≡ below (string_bytes l.fn.path) l.part
