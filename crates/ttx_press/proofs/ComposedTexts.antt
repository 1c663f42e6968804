-- What is known of an author's text that is composed.
use Rattle.std.proofs.Common.{◌≡◌, Option, Some, None, Ok, string_bytes}
use Rattle.toml.specs.Data.{Members}
use Rattle.ttx_desk.specs.Composing.{Composes}
use Rattle.ttx_desk.specs.declared.composition.Composed.{Composed}
use Rattle.ttx_source.specs.Services.{read_bytes}

pub service_said : (author : Option Members) (composed : Composed) → Composes author (Ok composed) →
    read_bytes (string_bytes composed.text) ≡ Ok composed.service
service_said None composed is = absurd is
service_said (Some author) composed is = is.service
