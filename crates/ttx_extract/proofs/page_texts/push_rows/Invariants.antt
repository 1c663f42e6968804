use Rattle.std.proofs.Common.{◌≡◌, ◌+◌, ◌++◌, drop, string_bytes}
use Rattle.ttx_extract.specs.ServiceTexts.{rows_text}
use Rattle.ttx_extract.proofs.page_texts.push_rows.Given as goal

abbrev pub invariant-loop-i : goal.invariant-loop-i
invariant-loop-i l = string_bytes l.text ++ rows_text (l.i + 1) (drop l.i l.rows) ≡ string_bytes l.fn.text ++ rows_text 1 l.rows
