use Rattle.std.proofs.Common.{◌≡◌, ◌++◌, drop, string_bytes}
use Rattle.ttx_certify.specs.AllLines.{page_lines}
use Rattle.ttx_certify.proofs.all_lines.push_page_lines.Given as goal

abbrev pub invariant-loop-told : goal.invariant-loop-told
invariant-loop-told l = string_bytes l.text ++ page_lines (drop l.told-index l.pages) ≡ string_bytes l.initial.text ++ page_lines l.pages
