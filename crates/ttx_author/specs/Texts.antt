-- A text that means a row of codes.
--
--   in_braces, one          a name in braces; what is written for one code
--   is_box, starts_box      whether two codes are the two of a box, or of its end
--   written                 what is written for codes
--   before_spaces           codes without the spaces at their end
--   text_of                 the text of a row
use Rattle.std.specs.Prelude.{ℕ, ◌+◌, Bool, false, ◌&&◌, ◌||◌, ◌==◌, nat_lt, if◌then◌else◌, List, [], ◌∷◌, ◌++◌, slice_index_or}
use Rattle.std.specs.List.{list_all}
use Rattle.ttx_author.specs.Signs.{sign}
use Rattle.ttx_author.specs.Tags.{names}
use Rattle.ttx_author.specs.Rows.{mode_after}

abbrev pub in_braces : List ℕ → List ℕ
in_braces name = 0x7b ∷ (name ++ 0x7d ∷ [])

-- a control code by its name, any other code by the character that stands for it
abbrev pub one : ℕ → Bool → ℕ → List ℕ
one option mosaic code = if nat_lt code 0x20 then in_braces (slice_index_or names code []) else sign mosaic option code ∷ []

abbrev pub is_box : ℕ → ℕ → Bool
is_box code next = (code == next) && (code == 0x0a || code == 0x0b)

abbrev pub starts_box : List ℕ → Bool
starts_box (code ∷ next ∷ rest) = is_box code next
starts_box _ = false

-- the text of codes under an option, from a mode on; the names of boxes follow those of the 32 codes
unfoldable pub written : ℕ → Bool → List ℕ → List ℕ
written option mosaic [] = []
written option mosaic (code ∷ []) = one option mosaic code
written option mosaic (code ∷ next ∷ rest) =
    if is_box code next then in_braces (slice_index_or names (code + 22) []) ++ written option mosaic rest
    else one option mosaic code ++ written option (mode_after code mosaic) (next ∷ rest)

abbrev pub are_spaces : List ℕ → Bool
are_spaces codes = list_all (λ code. code == 0x20) codes

-- the codes up to the last one that is not a space
unfoldable pub before_spaces : List ℕ → List ℕ
before_spaces [] = []
before_spaces (code ∷ codes) = if are_spaces (code ∷ codes) then [] else code ∷ before_spaces codes

-- the text of a row
abbrev pub text_of : ℕ → List ℕ → List ℕ
text_of option codes = written option false (before_spaces codes)
