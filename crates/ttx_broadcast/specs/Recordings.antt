-- What a log records of the ends of periods, as answers of a newsroom.
--
--   words_of                why a next edition does not take over, without the end of the line
--   recorded, recorded_in   the answer that a log records of an ending; of many, the newest one first
use Rattle.std.specs.Prelude.{ℕ, ◌-◌, if◌then◌else◌, codes, List, length, map, take}
use Rattle.ttx_playout.specs.declared.late_change.LateChange.{LateChange}
use Rattle.ttx_air.specs.Newsrooms.{News, Nothing, Next, Refused}
use Rattle.ttx_air.specs.Judgements.{is_yes}
use Rattle.ttx_air.specs.Endings.{Ending, Held, Quiet, Unfit, Judged, Unjudged}
use Rattle.ttx_air.specs.LogLines.{reason_line}

abbrev pub without_end : List ℕ → List ℕ
without_end line = take (length line - 1) line

abbrev pub words_of : LateChange → List ℕ
words_of verdict = without_end (reason_line verdict)

-- the edition that took over; a text that did not, and why; or nothing
abbrev pub recorded : Ending → News
recorded Held = Nothing
recorded Quiet = Nothing
recorded (Unfit mark words) = Refused mark words
recorded (Judged next verdict) = if is_yes verdict then Next next else Refused next.mark (words_of verdict)
recorded (Unjudged next) = Refused next.mark (codes "out of memory")

abbrev pub recorded_in : List Ending → List News
recorded_in past = map recorded past
