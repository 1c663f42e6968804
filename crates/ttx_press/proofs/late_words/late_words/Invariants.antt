use Rattle.std.proofs.Common.{◌≡◌, ◌++◌, drop, map, string_bytes}
use Rattle.ttx_promise.specs.Views.{late_view}
use Rattle.ttx_press.specs.Refusals.{late_parts, late_words}
use Rattle.ttx_press.proofs.late_words.late_words.Given as goal

abbrev pub invariant-loop-number : goal.invariant-loop-number
invariant-loop-number l =
    string_bytes l.words ++ late_parts l.number (map late_view (drop l.number l.pages)) ≡ late_words (map late_view l.pages)
