-- The mistakes of the program as mistakes of the definitions.
use Rattle.std.specs.Prelude.{List, map}
use Rattle.ttx_source.specs.KeyFaults.{key_fault_of}
use Rattle.ttx_check.specs.PartViews.{part_view}
use Rattle.ttx_mistakes.specs.Mistakes as rule
use Rattle.ttx_mistakes.specs.declared.mistakes.Mistake.{Mistake}

abbrev pub mistake_view : Mistake → rule.Mistake
mistake_view m = rule.mistake m.page (part_view m.part) (key_fault_of m.fault)

abbrev pub mistake_views : List Mistake → List rule.Mistake
mistake_views found = map mistake_view found
