use Rattle.std.proofs.Common.{◌≡◌, ◌++◌, drop, string_bytes}
use Rattle.ttx_records.specs.Verdicts.{page_records}
use Rattle.ttx_records.proofs.all_pages.push_pages.Given as goal

abbrev pub invariant-loop-told : goal.invariant-loop-told
invariant-loop-told l = string_bytes l.text ++ page_records (drop l.told-index l.pages) ≡ string_bytes l.initial.text ++ page_records l.pages
