-- The pages that come too late as those of the definitions.
use Rattle.std.specs.Prelude.{List, [], ◌∷◌, Option, Some, None}
use Rattle.ttx_promise.specs.Lateness.{LateFields, late_at}
use Rattle.ttx_promise.specs.declared.faults.LatePage.{LatePage}

abbrev pub late_view : LatePage → LateFields
late_view late = late_at late.page late.fields late.promise

abbrev pub late_list : Option LatePage → List LateFields
late_list None = []
late_list (Some late) = late_view late ∷ []
