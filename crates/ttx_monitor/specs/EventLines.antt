-- The lines that are written while a feed is read, and after it (profile).
--
--   slip_line, breach_line  a slip; a breach
--   state_line              the state
--   no_text, breaches_text, broken_line     the line of a feed whose breaches were passed over, and that of the bytes behind its last slot
--   all_text, minute_text, total_line       the last line, with what happens in a minute
--   in_lines                these words
use Rattle.std.specs.Prelude.{ℕ, List, [], ◌∷◌, ◌++◌, codes}
use Rattle.std.specs.Fmt.{decimal}
use Rattle.ttx_page.specs.Pages.{Page}
use Rattle.ttx_monitor.specs.FeedLines.{way_text, shifted_text, rest_text, feed_text}
use Rattle.ttx_monitor.specs.Wordings.{Words}
use Rattle.ttx_monitor.specs.declared.breach.Breach.{Breach}
use Rattle.ttx_monitor.specs.declared.sums.Sums.{Sums}
use Rattle.ttx_monitor.specs.declared.tally.Tally.{Tally}

abbrev pub slip_line : ℕ → ℕ → ℕ → List ℕ
slip_line count slot by = shifted_text count slot by ++ 10 ∷ []

abbrev pub breach_line : List Page → ℕ → Breach → List ℕ
breach_line pages slot breach = way_text pages slot breach ++ 10 ∷ []

abbrev pub state_line : Tally → List ℕ
state_line t =
    codes "slots " ++ decimal t.slots ++ codes " wrong " ++ decimal t.wrong ++ codes " streak " ++ decimal t.streak ++ codes " lost " ++ decimal t.lost
    ++ 10 ∷ []

abbrev pub no_text : ℕ → ℕ → List ℕ
no_text start slots = codes "no start " ++ decimal start ++ codes " slots " ++ decimal slots

abbrev pub breaches_text : Tally → List ℕ
breaches_text t =
    codes " wrong " ++ decimal t.wrong ++ codes " streak " ++ decimal t.streak ++ codes " breaches " ++ decimal t.breaches ++ 10 ∷ []

abbrev pub broken_line : ℕ → Tally → ℕ → List ℕ
broken_line start t rest = (no_text start t.slots ++ breaches_text t) ++ rest_text rest

abbrev pub all_text : ℕ → ℕ → List ℕ
all_text lost bits = codes "total lost " ++ decimal lost ++ codes " bits " ++ decimal bits

abbrev pub minute_text : ℕ → ℕ → List ℕ
minute_text lost bits = codes " minute lost " ++ decimal lost ++ codes " bits " ++ decimal bits ++ 10 ∷ []

abbrev pub total_line : Sums → List ℕ
total_line s = all_text s.lost s.bits ++ minute_text s.minute_lost s.minute_bits

abbrev pub in_lines : Words
in_lines = record { slip = slip_line; breach = breach_line; state = state_line; verdict = feed_text; broken = broken_line; sums = total_line }
