-- The line about the lines of a field with which pages have a deadline (profile).
--
--   range_text              one value, or the first and the last of several
--   values_line             the line
use Rattle.std.specs.Prelude.{ℕ, List, [], ◌∷◌, ◌++◌, ◌==◌, if◌then◌else◌, codes, Option, Some, None}
use Rattle.std.specs.Fmt.{decimal}
use Rattle.ttx_possible.specs.declared.line_values.Values.{Values}

abbrev pub range_text : Values → List ℕ
range_text v =
    if v.first == v.last then codes "lines " ++ decimal v.first ++ codes " gives a deadline" ++ 10 ∷ []
    else codes "lines " ++ decimal v.first ++ codes " to " ++ decimal v.last ++ codes " give a deadline" ++ 10 ∷ []

abbrev pub values_line : Option Values → List ℕ
values_line None = codes "no lines give a deadline" ++ 10 ∷ []
values_line (Some v) = range_text v
