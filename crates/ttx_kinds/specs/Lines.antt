-- The line about a file of another kind than its place takes (profile).
--
--   kind_text, place_text   what a file is; what a place takes
--   other_line              the line
--   told_line               the same, if the place does not take the file, and nothing otherwise
use Rattle.std.specs.Prelude.{ℕ, List, [], ◌∷◌, ◌++◌, codes, Option, Some, None}
use Rattle.ttx_kinds.specs.Places.{other_kind}
use Rattle.ttx_kinds.specs.declared.kinds.Kind.{Kind}
use Rattle.ttx_kinds.specs.declared.kinds.Kind.TheVariants as kind
use Rattle.ttx_kinds.specs.declared.places.Place.{Place}
use Rattle.ttx_kinds.specs.declared.places.Place.TheVariants.{Cycle, Feed, Service, ServiceOrAuthor, Author, Certificate}

abbrev pub kind_text : Kind → List ℕ
kind_text kind.Packets = codes "a packet file"
kind_text kind.Service = codes "a service text"
kind_text kind.Author = codes "an author's text"
kind_text kind.Certificate = codes "a certificate"
kind_text kind.CounterRun = codes "a counter-run"

abbrev pub place_text : Place → List ℕ
place_text Cycle = codes "CYCLE takes a packet file"
place_text Feed = codes "FEED takes packets"
place_text Service = codes "SERVICE takes a service text"
place_text ServiceOrAuthor = codes "SERVICE takes a service text or an author's text"
place_text Author = codes "AUTHOR takes an author's text"
place_text Certificate = codes "CERT takes a certificate"

abbrev pub other_line : Place → Kind → List ℕ
other_line place kind = codes "the file is " ++ kind_text kind ++ codes "; " ++ place_text place ++ 10 ∷ []

abbrev pub line_if : Place → Option Kind → List ℕ
line_if place None = []
line_if place (Some kind) = other_line place kind

abbrev pub told_line : Place → List ℕ → List ℕ
told_line place bytes = line_if place (other_kind place bytes)
