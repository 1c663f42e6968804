use Rattle.std.proofs.Common.{◌≡◌, ◌++◌, drop, string_bytes}
use Rattle.ttx_records.specs.Waits.{absent_records}
use Rattle.ttx_records.proofs.waits.push_absents.Given as goal

abbrev pub invariant-loop-page : goal.invariant-loop-page
invariant-loop-page l = string_bytes l.text ++ absent_records (drop l.page-index l.pages) ≡ string_bytes l.initial.text ++ absent_records l.pages
