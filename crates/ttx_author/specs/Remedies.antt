-- What an author can do about a mark that has no code.
--
--   options_with            which national options have a character
--   edits, IsNearest        how far two names are apart; the first of the nearest names of tags
use Rattle.std.specs.Prelude.{◌≡◌, ◌<◌, ℕ, Bool, List, [], length, map, nat_eq, nat_lt, slice_index_or}
use Rattle.std.specs.List.{range_with_len, IsFirstBest}
use Rattle.std.specs.Str.{chars}
use Rattle.strsim.specs.Edits.{levenshtein_row}
use Rattle.ttx_author.specs.Signs.{has_character}
use Rattle.ttx_author.specs.Tags.{names}

-- for each option, 0 to 7, whether it has the character
abbrev pub options_with : ℕ → List Bool
options_with character = map (λ option. has_character option character) (range_with_len 0 8)

-- characters inserted, left out or changed
abbrev pub edits : List ℕ → List ℕ → ℕ
edits known name = levenshtein_row nat_eq (chars known) name (length name)

-- no name of a tag is nearer, and none before it is as near
abbrev pub IsNearest : List ℕ → List ℕ → Type 0
IsNearest name nearest =
    (index : ℕ) × (index < 34) × (nearest ≡ slice_index_or names index []) × IsFirstBest nat_lt (map (λ known. edits known name) names) 34 index
