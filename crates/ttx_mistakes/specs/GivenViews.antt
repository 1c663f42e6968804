-- The keys of the program as keys of the definitions.
use Rattle.std.specs.Prelude.{List, map, string_bytes}
use Rattle.ttx_mistakes.specs.FirstKeys as rule
use Rattle.ttx_mistakes.specs.declared.first_keys.GivenKey.{GivenKey}

abbrev pub given_view : GivenKey → rule.GivenKey
given_view k = rule.given_at (string_bytes k.path) k.left k.element

abbrev pub given_views : List GivenKey → List rule.GivenKey
given_views keys = map given_view keys
