-- The parts of the program's type as parts of the definitions.
use Rattle.ttx_check.specs.Parts as rule
use Rattle.ttx_check.specs.declared.parts.Part.{Part}
use Rattle.ttx_check.specs.declared.parts.Part.TheVariants.{Whole, Key, Row, Link}

abbrev pub part_view : Part → rule.Part
part_view Whole = rule.whole
part_view (Key key) = rule.at_key key.now
part_view (Row key) = rule.at_row key.now
part_view (Link number) = rule.at_link number
