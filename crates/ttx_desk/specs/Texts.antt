-- Texts of an author's text: as codes, or the first mark that has none.
--
--   coded                   a text as codes in this number of cells, under an option
--   text_put                a table with the codes of a text at a key; a text that has none stays as it is
--   text_mistakes           the mistake of a text
use Rattle.std.specs.Prelude.{ℕ, List, [], ◌∷◌, false, Option, Some, None, Result, Ok, Err}
use Rattle.toml.specs.Data.{Members, string}
use Rattle.ttx_author.specs.declared.rows.Lack.{Lack}
use Rattle.ttx_author.specs.Marks.{marks_of}
use Rattle.ttx_author.specs.Rows.{codes_of}
use Rattle.ttx_desk.specs.Tables.{put}
use Rattle.ttx_desk.specs.Mistakes.{lack_mistake}
use Rattle.ttx_desk.specs.declared.mistakes.Mistake.{Mistake}
use Rattle.ttx_desk.specs.declared.mistakes.Part.{Part}

abbrev pub coded : ℕ → ℕ → List ℕ → Result (List ℕ) Lack
coded width option text = codes_of option false width (marks_of text)

abbrev pub codes_put : List ℕ → Result (List ℕ) Lack → Members → Members
codes_put key (Ok codes) table = put key (string codes) table
codes_put key (Err lack) table = table

abbrev pub text_put : ℕ → ℕ → List ℕ → Option (List ℕ) → Members → Members
text_put width option key None table = table
text_put width option key (Some text) table = codes_put key (coded width option text) table

abbrev pub lack_mistakes : ℕ → Part → Result (List ℕ) Lack → List Mistake
lack_mistakes page part (Ok codes) = []
lack_mistakes page part (Err lack) = lack_mistake page part lack ∷ []

abbrev pub text_mistakes : ℕ → ℕ → ℕ → Part → Option (List ℕ) → List Mistake
text_mistakes width option page part None = []
text_mistakes width option page part (Some text) = lack_mistakes page part (coded width option text)
