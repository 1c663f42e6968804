-- The explanation of a reason (profile).
--
--   is_named                a word is the key or the name of a reason
--   entry_text              the text that explains a reason
--   edits, distances, IsNearest     how far two names are apart; the first of the reasons whose names are nearest to a word
--   unknown_line            the line for a word that is no reason
--   IsExplained             the explanation of a word, and whether it is a reason
use Rattle.std.specs.Prelude.{◌≡◌, ℕ, Bool, true, false, ◌||◌, List, [], ◌∷◌, ◌++◌, codes, find, length, map, nat_eq, nat_lt, slice_get, Some, None}
use Rattle.std.specs.List.{IsFirstBest}
use Rattle.std.specs.Str.{bytes_eq, chars}
use Rattle.strsim.specs.Edits.{levenshtein_row}
use Rattle.ttx_reasons.specs.declared.entry.Entry.{Entry}

abbrev pub is_named : List ℕ → Entry → Bool
is_named word e = bytes_eq e.key.now word || bytes_eq e.name.now word

-- its line, what it means, and what to do, with an empty line between them
abbrev pub entry_text : Entry → List ℕ
entry_text e = e.line.now ++ 10 ∷ 10 ∷ e.meaning.now ++ 10 ∷ 10 ∷ e.remedy.now ++ 10 ∷ []

-- characters inserted, left out or changed
abbrev pub edits : List ℕ → List ℕ → ℕ
edits word name = levenshtein_row nat_eq (chars name) (chars word) (length (chars word))

abbrev pub distances : List ℕ → List Entry → List ℕ
distances word table = map (λ e. edits word e.name.now) table

-- no name of the table is nearer to the word, and none before it is as near
abbrev pub IsNearest : List Entry → List ℕ → Entry → Type 0
IsNearest table word entry =
    (index : ℕ) × (slice_get table index ≡ Some entry) × IsFirstBest nat_lt (distances word table) (length table) index

abbrev pub unknown_line : List ℕ → List ℕ
unknown_line name = codes "refused: reason: is it " ++ name ++ codes "?" ++ 10 ∷ []

-- the text of the first reason of the table with this key or name; if there is none, the line with the nearest name
abbrev pub IsExplained : List Entry → List ℕ → Bool → List ℕ → Type 0
IsExplained table word true text = (e : Entry) × (find (is_named word) table ≡ Some e) × (text ≡ entry_text e)
IsExplained table word false text = (e : Entry) × (find (is_named word) table ≡ None) × IsNearest table word e × (text ≡ unknown_line e.name.now)
