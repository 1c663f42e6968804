use Rattle.std.proofs.Common.{◌≡◌, ◌++◌, drop, string_bytes}
use Rattle.ttx_lines.specs.UnlikeViews.{unlike_rows}
use Rattle.ttx_lines.proofs.unlike_views.push_unlike_rows.Given as goal

abbrev pub invariant-loop-number : goal.invariant-loop-number
invariant-loop-number l =
    string_bytes l.text ++ unlike_rows l.own l.number (drop l.number l.shown) ≡ string_bytes l.initial.text ++ unlike_rows l.own 0 l.shown
