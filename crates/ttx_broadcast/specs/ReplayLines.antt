-- What is said of a replay, without the end of the line (profile).
--
--   end_text                the log is the same, or another one
--   outcome_text, outcome_status    how a replay ended; the status of the program after it
--   log_text                why a text is no log
use Rattle.std.specs.Prelude.{ℕ, Bool, if◌then◌else◌, List, ◌++◌, codes, string_bytes, Result, Ok, Err, ⊤}
use Rattle.std.specs.Fmt.{decimal}
use Rattle.ttx_air.specs.declared.faults.AirFault.{AirFault}
use Rattle.ttx_air.specs.declared.faults.AirFault.TheVariants.{Start, NeverShown, TooFar, Write}
use Rattle.ttx_logbook.specs.declared.log.LogFault.{LogFault}
use Rattle.ttx_logbook.specs.declared.log.LogFault.TheVariants as log
use Rattle.ttx_broadcast.specs.declared.recordings.faults.ReplayFault.{ReplayFault}
use Rattle.ttx_broadcast.specs.declared.recordings.faults.ReplayFault.TheVariants.{Lost, Refused, NoMemory, Air}

abbrev pub end_text : Bool → List ℕ → List ℕ
end_text is_same same = if is_same then same else codes "no 1 log"

-- a first edition that was made for its receivers is refused by the air only for lack of memory
abbrev pub outcome_text : Bool → Result ⊤ ReplayFault → List ℕ
outcome_text is_same (Ok _) = end_text is_same (codes "yes")
outcome_text is_same (Err (Lost digest)) = codes "refused: text " ++ digest.now
outcome_text is_same (Err (Refused words)) = codes "refused: " ++ string_bytes words
outcome_text is_same (Err NoMemory) = codes "fault: memory"
outcome_text is_same (Err (Air (Write fault))) = end_text is_same (codes "fault: write")
outcome_text is_same (Err (Air (Start fault))) = codes "fault: memory"
outcome_text is_same (Err (Air (NeverShown page slot))) = codes "fault: memory"
outcome_text is_same (Err (Air (TooFar gap))) = codes "fault: memory"

abbrev pub outcome_status : Bool → Result ⊤ ReplayFault → ℕ
outcome_status is_same (Ok _) = if is_same then 0 else 1
outcome_status is_same (Err (Lost digest)) = 2
outcome_status is_same (Err (Refused words)) = 2
outcome_status is_same (Err NoMemory) = 3
outcome_status is_same (Err (Air (Write fault))) = if is_same then 3 else 1
outcome_status is_same (Err (Air (Start fault))) = 3
outcome_status is_same (Err (Air (NeverShown page slot))) = 3
outcome_status is_same (Err (Air (TooFar gap))) = 3

abbrev pub log_text : LogFault → List ℕ
log_text (log.Line line) = codes "refused: log line " ++ decimal line
log_text log.NoMemory = codes "fault: memory"
