-- What follows of the words of a refusal.
use Rattle.std.proofs.Common.{ℕ, List, string_bytes}
use Rattle.ttx_air.specs.declared.press.PressFault.{PressFault}
use Rattle.ttx_air.specs.declared.press.PressFault.TheVariants.{Refused, NoMemory}
use Rattle.ttx_press.specs.Refusals.{Says}

pub says_as : (P Q : List ℕ → Type 0) (fault : PressFault) → ((words : List ℕ) → P words → Q words) → Says P fault → Says Q fault
says_as P Q (Refused words) follows said = follows (string_bytes words) said
says_as P Q NoMemory follows said = tt
