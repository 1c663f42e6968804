-- The tags of a text in SVG or HTML, as XML has them, read byte by byte with the names of the elements that are still open.
--
--   is_letter, is_ruled     the bytes of a name; bytes that are nowhere allowed: the control characters 00 to 1F except line feeds
--   Place, Reading          where the reading is, and the names of the open elements, the innermost first
--   read                    the reading after one more byte
--   IsNested                every element that is opened is closed by its name, properly nested
use Rattle.std.specs.Prelude.{◌≡◌, ℕ, Bool, not, ◌&&◌, ◌||◌, ◌==◌, nat_lt, nat_le, if◌then◌else◌, List, [], ◌∷◌, ◌++◌, fold}

-- 0 to 9, A to Z, a to z
abbrev pub is_letter : ℕ → Bool
is_letter b = (nat_le 48 b && nat_le b 57) || (nat_le 65 b && nat_le b 90) || (nat_le 97 b && nat_le b 122)

abbrev pub is_ruled : ℕ → Bool
is_ruled b = nat_lt b 0x20 && not (b == 10)

pub data Place : Type 0 where
  InText : Place
  AfterLess : Place
  InName : (name : List ℕ) → Place
  InTag : (name : List ℕ) → Place
  InValue : (name : List ℕ) → Place
  AfterSlash : Place
  InEnd : (rest : List ℕ) → Place
  InDeclaration : Place
  Nowhere : Place

pub record Reading : Type 0 where
  pub place : Place
  pub within : List (List ℕ)

abbrev pub reading_at : Place → List (List ℕ) → Reading
reading_at place within = record { place = place; within = within }

-- an end tag has the name of the innermost open element
abbrev pub end_tag : List (List ℕ) → Reading
end_tag [] = reading_at Nowhere []
end_tag (name ∷ outer) = reading_at (InEnd name) outer

-- among the attributes of an element: > ends its opening tag, / makes it an empty element, a quote begins a value
abbrev pub in_tag : List ℕ → List (List ℕ) → ℕ → Reading
in_tag name within b =
    if b == 62 then reading_at InText (name ∷ within)
    else if b == 47 then reading_at AfterSlash within
    else if b == 34 then reading_at (InValue name) within
    else if b == 60 then reading_at Nowhere within
    else reading_at (InTag name) within

abbrev pub next : Place → List (List ℕ) → ℕ → Reading
next InText within b = if b == 60 then reading_at AfterLess within else reading_at InText within
next AfterLess within b =
    if b == 47 then end_tag within
    else if b == 33 then reading_at InDeclaration within
    else if is_letter b then reading_at (InName (b ∷ [])) within
    else reading_at Nowhere within
next (InName name) within b = if is_letter b then reading_at (InName (name ++ b ∷ [])) within else in_tag name within b
next (InTag name) within b = in_tag name within b
next (InValue name) within b =
    if b == 34 then reading_at (InTag name) within else if b == 60 then reading_at Nowhere within else reading_at (InValue name) within
next AfterSlash within b = if b == 62 then reading_at InText within else reading_at Nowhere within
next (InEnd []) within b = if b == 62 then reading_at InText within else reading_at Nowhere within
next (InEnd (c ∷ rest)) within b = if b == c then reading_at (InEnd rest) within else reading_at Nowhere within
next InDeclaration within b = if b == 62 then reading_at InText within else reading_at InDeclaration within
next Nowhere within b = reading_at Nowhere within

abbrev pub read : Reading → ℕ → Reading
read r b = if is_ruled b then reading_at Nowhere r.within else next r.place r.within b

-- reading begins and ends outside all elements
abbrev pub IsNested : List ℕ → Type 0
IsNested bytes = fold read (reading_at InText []) bytes ≡ reading_at InText []
