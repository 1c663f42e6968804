-- Errors and warnings of the program as those of the definitions.
use Rattle.std.specs.Prelude.{List, map}
use Rattle.ttx_mistakes.specs.LongLines as rule
use Rattle.ttx_mistakes.specs.declared.placed.Placed.{Placed}

abbrev pub placed_view : Placed → rule.Placed
placed_view p = rule.placed_at p.error p.place p.words.items

abbrev pub placed_views : List Placed → List rule.Placed
placed_views found = map placed_view found
