-- The lines of numbers that stay too short, and of what else a plan with stays misses (profile): words and numbers separated by one space,
-- each line ended by 0A.
--
--   number_words, fields_words      the number; for how many fields its pages stay, and are to stay
--   stay_line, stay_lines   the line of a number, and those of a list
--   unseen_line, never_shown_line, missed_line      the line of what is missed: a page that no certificate accepts, comes too late, or is never shown late
use Rattle.std.specs.Prelude.{ℕ, List, [], ◌∷◌, ◌++◌, codes}
use Rattle.std.specs.Fmt.{decimal}
use Rattle.ttx_digits.specs.PageIds.{id_text}
use Rattle.ttx_header.specs.Ids.{Id}
use Rattle.ttx_numbers.specs.Numbers.{number_text}
use Rattle.ttx_promise.specs.PromiseLines.{late_line}
use Rattle.ttx_promise.specs.Views.{late_view}
use Rattle.ttx_carousel.specs.declared.faults.Missed.{Missed}
use Rattle.ttx_carousel.specs.declared.faults.Missed.TheVariants.{Unseen, Late, NeverShown}
use Rattle.ttx_carousel.specs.declared.faults.ShortStay.{ShortStay}

unfoldable pub number_words : Id → List ℕ
number_words number = codes "stays " ++ number_text number

unfoldable pub fields_words : ℕ → ℕ → List ℕ
fields_words fields promise = codes " " ++ decimal fields ++ codes " fields" ++ codes " of " ++ decimal promise

unfoldable pub stay_line : ShortStay → List ℕ
stay_line short = number_words short.number ++ fields_words short.fields short.promise ++ 10 ∷ []

abbrev pub stay_lines : List ShortStay → List ℕ
stay_lines [] = []
stay_lines (short ∷ rest) = stay_line short ++ stay_lines rest

unfoldable pub unseen_line : Id → List ℕ
unseen_line page = codes "unseen " ++ id_text page ++ 10 ∷ []

unfoldable pub never_shown_line : Id → ℕ → List ℕ
never_shown_line page slot = codes "never-shown " ++ id_text page ++ codes " " ++ decimal slot ++ 10 ∷ []

abbrev pub missed_line : Missed → List ℕ
missed_line (Unseen page) = unseen_line page
missed_line (Late late) = late_line (late_view late)
missed_line (NeverShown page slot) = never_shown_line page slot
