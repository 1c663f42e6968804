-- The national options and their numbers, 4*C12 + 2*C13 + C14 (EN 300 706, 9.3.1.3).
use Rattle.std.specs.Prelude.{ℕ, List, [], ◌∷◌, codes}
use Rattle.ttx_author.specs.declared.options.NationalOption.{NationalOption}
use Rattle.ttx_author.specs.declared.options.NationalOption.TheVariants.{English, German, Swedish, Italian, French, Spanish, Czech, Seventh}

abbrev pub option_number : NationalOption → ℕ
option_number English = 0
option_number German = 1
option_number Swedish = 2
option_number Italian = 3
option_number French = 4
option_number Spanish = 5
option_number Czech = 6
option_number Seventh = 7

-- the names of options 0 to 6; option 7 has none
unfoldable pub option_names : List (List ℕ)
option_names =
    codes "english" ∷ codes "german" ∷ codes "swedish" ∷ codes "italian" ∷ codes "french" ∷ codes "spanish" ∷ codes "czech" ∷ []
