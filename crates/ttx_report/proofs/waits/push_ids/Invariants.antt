use Rattle.std.proofs.Common.{◌≡◌, ◌++◌, drop, string_bytes}
use Rattle.ttx_report.specs.Waits.{ids_text}
use Rattle.ttx_report.proofs.waits.push_ids.Given as goal

abbrev pub invariant-loop-id : goal.invariant-loop-id
invariant-loop-id l = string_bytes l.text ++ ids_text (drop l.id-index l.ids) ≡ string_bytes l.initial.text ++ ids_text l.ids
