use Rattle.std.proofs.Common.{◌≡◌, ◌++◌, map, length}
use denote.Text.{Utf8}
use denote.Shadow.{shadow}
use Rattle.ttx_logbook.specs.LogTexts.{AreEntries, lines_text}
use Rattle.ttx_logbook.specs.Views.{entry_of}
use Rattle.ttx_logbook.proofs.reader.entries.Given as goal

-- the lines so far, and what is left
abbrev pub invariant-loop-rest : goal.invariant-loop-rest
invariant-loop-rest l = shadow (Utf8 l.rest) × AreEntries (map entry_of l.entries.items)
    × (l.text ≡ lines_text (map entry_of l.entries.items) ++ l.rest)

abbrev pub decreases-loop-rest : goal.decreases-loop-rest
decreases-loop-rest l = length l.rest
