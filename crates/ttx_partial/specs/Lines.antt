-- The lines about what is left out (profile).
--
--   start_text, left_line, left_lines       a page number; with the reason; all of them
--   pages_line, others_line how many pages were extracted, and how many other packets were left out
--   partial_lines           all lines
use Rattle.std.specs.Prelude.{ℕ, List, [], ◌∷◌, ◌++◌, codes}
use Rattle.std.specs.Fmt.{decimal}
use Rattle.ttx_header.specs.Ids.{Id}
use Rattle.ttx_numbers.specs.Numbers.{number_text}
use Rattle.ttx_extract.specs.Refusals.{refusal_text}
use Rattle.ttx_partial.specs.LeftOut.{fault_of}
use Rattle.ttx_partial.specs.declared.left_out.LeftOut.{LeftOut}

unfoldable pub start_text : Id → List ℕ
start_text page = codes "left out " ++ number_text page

unfoldable pub left_line : LeftOut → List ℕ
left_line l = start_text l.page ++ 32 ∷ refusal_text (fault_of l) ++ 10 ∷ []

unfoldable pub left_lines : List LeftOut → List ℕ
left_lines [] = []
left_lines (l ∷ ls) = left_line l ++ left_lines ls

unfoldable pub pages_line : ℕ → List ℕ
pages_line pages = codes "extracted " ++ decimal pages ++ codes " pages" ++ 10 ∷ []

unfoldable pub others_line : ℕ → List ℕ
others_line others = codes "left out " ++ decimal others ++ codes " other packets" ++ 10 ∷ []

abbrev pub partial_lines : List LeftOut → ℕ → ℕ → List ℕ
partial_lines left pages others = left_lines left ++ pages_line pages ++ others_line others
