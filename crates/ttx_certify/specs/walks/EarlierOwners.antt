-- An owner moved some slots back: `IsMoved`.
use Rattle.std.specs.Prelude.{◌≡◌, ℕ, ◌≤◌, pos, ◌-ℤ◌, ◌≤ℤ◌, Option, Some, None}
use Rattle.ttx_witness.specs.declared.sent.owners.Owner.{Owner}

abbrev pub IsMoved : ℕ → Option Owner → Option Owner → Type 0
IsMoved by None result = result ≡ None
IsMoved by (Some o) result = (pos 0 ≤ℤ o.slot) → by ≤ 65536 → result ≡ Some (record { slot = o.slot -ℤ pos by; page = o.page; tainted = o.tainted })
