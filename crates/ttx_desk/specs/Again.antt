-- A service text that is decomposed and composed again gives the same service.
use Rattle.std.specs.Prelude.{◌≡◌, ℕ, List, string_bytes, Ok}
use Rattle.ttx_desk.specs.Composing.{author_in, Composes}
use Rattle.ttx_desk.specs.Decomposing.{Decomposes}
use Rattle.ttx_desk.specs.declared.composition.Composed.{Composed}
use Rattle.ttx_desk.specs.declared.decomposition.Decomposed.{Decomposed}

abbrev pub ComposedAgainIsTheSame : Type 0
ComposedAgainIsTheSame =
    (bytes : List ℕ) (decomposed : Decomposed) (composed : Composed) → Decomposes bytes (Ok decomposed)
    → Composes (author_in (string_bytes decomposed.text)) (Ok composed) → composed.service ≡ decomposed.service
