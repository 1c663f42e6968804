-- Why an author's text stands for no service text that is read to a service and its promises, in words with places in the author's text (profile).
--
--   position_words          the line and the column of a place in a text
--   IsMistakeWords          the words about a mistake of an author's text: where it stands, and what `compose` says about it
--   IsFaultOf               the first fault of the table of a service: of the service, or of a promise
--   IsFaulty                the words about it: where its value stands in the author's text, and what `check` says about it
--   IsRefusalBy, IsTableRefusal, IsAuthorRefusal    the words about the first mistake; if there is none, about what the text means
--   IsTableWhy, IsWhy       what is known of an author's text for each reason of `compose`, and if its promises are refused
use Rattle.std.specs.Prelude.{◌≡◌, ◌⊎◌, ℕ, ◌<◌, List, [], ◌∷◌, ◌++◌, codes, length, take, ⊤, Option, Some, None, Err}
use Rattle.toml.specs.Data.{Members}
use Rattle.ttx_check.specs.Refusals.{position_text, place_text, fault_words}
use Rattle.ttx_check.specs.Spots.{spot_path, spot_name, IsDetail}
use Rattle.ttx_desk.specs.Composing.{author_in}
use Rattle.ttx_desk.specs.Places.{IsPlace}
use Rattle.ttx_desk.specs.Services.{service_table, mistakes}
use Rattle.ttx_desk.specs.Words.{IsFaultWords}
use Rattle.ttx_desk.specs.declared.composition.ComposeFault.{ComposeFault}
use Rattle.ttx_desk.specs.declared.composition.ComposeFault.TheVariants.{NotToml, Mistakes, Service, Unsaid, NoMemory}
use Rattle.ttx_desk.specs.declared.mistakes.Mistake.{Mistake}
use Rattle.ttx_places.specs.Places.{place_of}
use Rattle.ttx_places.specs.Positions.{line_after, column_after}
use Rattle.ttx_source.specs.Faults.{fault_of}
use Rattle.ttx_source.specs.Promises.{promises_of}
use Rattle.ttx_source.specs.Services.{service_of}
use Rattle.ttx_source.specs.Values.{Fault}

-- `line 12 column 5`, both from 1, a column for each character
abbrev pub position_words : List ℕ → ℕ → List ℕ
position_words text place = position_text (line_after (take place text)) (column_after (take place text))

pub record IsMistakeWords (text : List ℕ) (author : Members) (mistake : Mistake) (words : List ℕ) : Type 0 where
  pub place : ℕ
  pub said : List ℕ
  pub stands : IsPlace text mistake place
  pub says : IsFaultWords author mistake said
  pub words_are : words ≡ position_words text place ++ codes ": " ++ said

abbrev pub IsFaultOf : Members → Fault → ℕ → Type 0
IsFaultOf table fault page = (service_of table ≡ Err (fault, page)) ⊎ (promises_of (codes "within") table ≡ Err (fault, page))

-- of a service table, whose values stand in the text
pub record IsFaulty (text : List ℕ) (table : Members) (words : List ℕ) : Type 0 where
  pub fault : Fault
  pub page : ℕ
  pub refused : IsFaultOf table fault page
  pub place : Option ℕ
  pub detail : List ℕ
  pub stands : place_of (spot_path table fault page) text ≡ Some place
  pub says : IsDetail table fault page detail
  pub words_are : words ≡ place_text text place (spot_name table fault page) ++ codes ": " ++ fault_words fault ++ detail

-- the words by the mistakes of the text; without any, the service that it means is refused, or its service text would be read as another
abbrev pub IsRefusalBy : List ℕ → Members → List Mistake → List ℕ → Type 0
IsRefusalBy text author (mistake ∷ others) words = IsMistakeWords text author mistake words
IsRefusalBy text author [] words = IsFaulty text (service_table author) words ⊎ (words ≡ codes "the service text would be read as another")

abbrev pub IsTableRefusal : List ℕ → Members → List ℕ → Type 0
IsTableRefusal text author words = IsRefusalBy text author (mistakes author) words

pub record IsAuthorRefusal (text words : List ℕ) : Type 0 where
  pub author : Members
  pub author_is : author_in text ≡ Some author
  pub says : IsTableRefusal text author words

abbrev pub IsTableWhy : Members → ComposeFault → Type 0
IsTableWhy author NotToml = ⊥
IsTableWhy author (Mistakes found) = (found.items ≡ mistakes author) × (0 < length found.items)
IsTableWhy author (Service error) = (mistakes author ≡ []) × IsFaultOf (service_table author) (fault_of error.fault) error.page
IsTableWhy author Unsaid = mistakes author ≡ []
IsTableWhy author NoMemory = ⊤

-- of a text that is no TOML nothing is known
abbrev pub IsWhy : Option Members → ComposeFault → Type 0
IsWhy (Some author) why = IsTableWhy author why
IsWhy None why = ⊤
