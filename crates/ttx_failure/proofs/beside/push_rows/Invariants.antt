use Rattle.std.proofs.Common.{◌≡◌, ◌++◌, drop, string_bytes}
use denote.Shadow.{shadow}
use denote.Text.{Utf8}
use Rattle.ttx_failure.specs.Beside.{beside_rows, text_after}
use Rattle.ttx_failure.proofs.beside.push_rows.Given as goal

abbrev pub invariant-loop-number : goal.invariant-loop-number
invariant-loop-number l =
    shadow (Utf8 l.own_text) × shadow (Utf8 l.shown_text)
    × (string_bytes l.text ++ beside_rows l.own l.number (drop l.number l.shown) l.own_text l.shown_text
    ≡ string_bytes l.initial.text ++ beside_rows l.own 0 l.shown l.texts.own.now l.texts.shown.now)
    × (text_after (drop l.number l.shown) l.own_text ≡ text_after l.shown l.texts.own.now)
    × (text_after (drop l.number l.shown) l.shown_text ≡ text_after l.shown l.texts.shown.now)
