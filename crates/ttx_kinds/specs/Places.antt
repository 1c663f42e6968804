-- What the places of a command's inputs take (profile).
--
--   takes                   a place takes files of this kind
--   other_kind              the kind of a file, if the place does not take it
use Rattle.std.specs.Prelude.{ℕ, Bool, true, false, if◌then◌else◌, List, Option, Some, None}
use Rattle.ttx_kinds.specs.Kinds.{kind_of}
use Rattle.ttx_kinds.specs.declared.kinds.Kind.{Kind}
use Rattle.ttx_kinds.specs.declared.kinds.Kind.TheVariants as kind
use Rattle.ttx_kinds.specs.declared.places.Place.{Place}
use Rattle.ttx_kinds.specs.declared.places.Place.TheVariants.{Cycle, Feed, Service, ServiceOrAuthor, Author, Certificate}

abbrev pub takes : Place → Kind → Bool
takes Cycle kind.Packets = true
takes Feed kind.Packets = true
takes Service kind.Service = true
takes ServiceOrAuthor kind.Service = true
takes ServiceOrAuthor kind.Author = true
takes Author kind.Author = true
takes Certificate kind.Certificate = true
takes place kind = false

abbrev pub untaken : Place → Option Kind → Option Kind
untaken place None = None
untaken place (Some kind) = if takes place kind then None else Some kind

abbrev pub other_kind : Place → List ℕ → Option Kind
other_kind place bytes = untaken place (kind_of bytes)
