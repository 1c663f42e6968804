-- Reports on feeds as JSON objects (profile): the names and values of the lines of `monitor --all` and `monitor --every`.
--
--   slip_record, breach_record      a slip; a breach; without the start
--   state_members           what has been counted so far
--   broken_members          what was counted of a feed whose breaches were passed over
--   total_members           what was lost and wrong, in all and in a minute
--   in_objects              these words
use Rattle.std.specs.Prelude.{ℕ, List, [], ◌∷◌, ◌++◌, codes, None}
use Rattle.ttx_json.specs.Objects.{Member, word, count}
use Rattle.ttx_page.specs.Pages.{Page}
use Rattle.ttx_monitor.specs.Wordings.{Words}
use Rattle.ttx_monitor.specs.declared.breach.Breach.{Breach}
use Rattle.ttx_monitor.specs.declared.sums.Sums.{Sums}
use Rattle.ttx_monitor.specs.declared.tally.Tally.{Tally}
use Rattle.ttx_feed_records.specs.FeedRecords.{line, no, rest_members, how_members, with_start, shifted_members, feed_record}

abbrev pub slip_record : ℕ → ℕ → ℕ → List ℕ
slip_record slots slot by = line (with_start (shifted_members slots slot by) None)

abbrev pub breach_record : List Page → ℕ → Breach → List ℕ
breach_record pages slot breach = line (with_start (how_members pages slot breach) None)

abbrev pub state_members : Tally → List Member
state_members t =
    word (codes "answer") (codes "state") ∷ count (codes "slots") t.slots ∷ count (codes "wrong") t.wrong ∷ count (codes "streak") t.streak
    ∷ count (codes "lost") t.lost ∷ []

abbrev pub broken_members : ℕ → Tally → List Member
broken_members start t =
    no (count (codes "start") start ∷ count (codes "slots") t.slots ∷ count (codes "wrong") t.wrong ∷ count (codes "streak") t.streak
    ∷ count (codes "breaches") t.breaches ∷ [])

abbrev pub total_members : Sums → List Member
total_members s =
    word (codes "answer") (codes "total") ∷ count (codes "lost") s.lost ∷ count (codes "bits") s.bits ∷ count (codes "minute_lost") s.minute_lost
    ∷ count (codes "minute_bits") s.minute_bits ∷ []

abbrev pub in_objects : Words
in_objects = record {
  slip = slip_record;
  breach = breach_record;
  state = λ t. line (state_members t);
  verdict = feed_record;
  broken = λ start t rest. line (broken_members start t ++ rest_members rest);
  sums = λ s. line (total_members s);
}
