use Rattle.std.proofs.Common.{◌≡◌, List, ◌++◌}
use Rattle.toml.specs.View.{members_view}
use Rattle.toml.proofs.Views.{Entry}
use Rattle.ttx_desk.proofs.tables.copy_of.Given as goal

abbrev pub invariant-loop-key : goal.invariant-loop-key
invariant-loop-key l = (done : List Entry) × (l.table.entries ≡ done ++ l.key-iterator) × (members_view l.copy.entries ≡ members_view done)
