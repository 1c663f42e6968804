use Rattle.std.proofs.Common.{◌≡◌, ◌++◌, drop, string_bytes}
use Rattle.ttx_records.specs.Waits.{page_records}
use Rattle.ttx_records.proofs.waits.push_pages.Given as goal

abbrev pub invariant-loop-one : goal.invariant-loop-one
invariant-loop-one l = string_bytes l.text ++ page_records (drop l.one-index l.all) ≡ string_bytes l.initial.text ++ page_records l.all
