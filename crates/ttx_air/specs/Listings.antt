-- A newsroom that is a list of answers.
--
--   answers_of, HandsOut    what it will still answer, the last one first; an answer, and what is left
use Rattle.std.specs.Prelude.{◌≡◌, ◌⊎◌, List, [], ◌∷◌, ◌++◌, map}
use Rattle.ttx_air.specs.Newsrooms.{News, Nothing, news_of}
use Rattle.ttx_air.specs.declared.listed.Listed.{Listed}

abbrev pub answers_of : Listed → List News
answers_of l = map news_of l.news.items

-- the last one, or nothing where none is left
abbrev pub HandsOut : List News → News → List News → Type 0
HandsOut answers answer rest = ((answers ≡ []) × (answer ≡ Nothing) × (rest ≡ [])) ⊎ (answers ≡ rest ++ answer ∷ [])
