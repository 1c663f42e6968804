-- The as-run log: what happened, and before which field (profile).
--
--   lists, lacking          whether a page with this id is in a list; how many of the pages have an id that no page of the other list has
--   pages_text, seconds_text, deadline_text         a number of pages; a number of fields in seconds; a deadline
--   Tick, tick_at, tick     a field, and the moment at which it is sent
--   field_text, at_field    the field before which something happens, with the time that the clock shows
--   reason_line             why a next edition does not take over, as `splice` says it
--   edition_text, change_text       the words about a first edition, and about a change
--   first_line, changed_line, kept_line, end_line   the lines of the log
--   ending_line, lines_of   the line of an ending, and of many
use Rattle.std.specs.Prelude.{ℕ, ◌+◌, ◌*◌, ◌/◌, ◌%◌, ◌==◌, Bool, ◌||◌, false, if◌then◌else◌, List, [], ◌∷◌, ◌++◌, length, codes}
use Rattle.std.specs.Fmt.{decimal}
use Rattle.ttx_header.specs.Ids.{Id, same_id}
use Rattle.ttx_page.specs.Pages.{Page}
use Rattle.ttx_certify.specs.VerdictLines.{page_words, slot_words}
use Rattle.ttx_proof.specs.SpliceLines.{splice_line}
use Rattle.ttx_proof.specs.declared.verdict.SpliceVerdict.TheVariants as splice
use Rattle.ttx_send.specs.Times.{Moment}
use Rattle.ttx_send.specs.IsoTexts.{iso_text}
use Rattle.ttx_send.specs.Airing.{Times, field_time}
use Rattle.ttx_playout.specs.Schedules.{Edition}
use Rattle.ttx_playout.specs.declared.late_change.LateChange.{LateChange}
use Rattle.ttx_playout.specs.declared.late_change.LateChange.TheVariants.{Yes, No, NeverShown, TooFar, Unfollowed}
use Rattle.ttx_air.specs.Newsrooms.{Candidate}
use Rattle.ttx_air.specs.Judgements.{is_yes}
use Rattle.ttx_air.specs.Endings.{Ending, Held, Quiet, Unfit, Judged, Unjudged, playout_after, field_after}

abbrev pub lists : List Page → Id → Bool
lists [] id = false
lists (p ∷ pages) id = same_id p.id id || lists pages id

abbrev pub lacking : List Page → List Page → ℕ
lacking others [] = 0
lacking others (p ∷ pages) = if lists others p.id then lacking others pages else lacking others pages + 1

abbrev pub pages_text : ℕ → List ℕ
pages_text n = decimal n ++ (if n == 1 then codes " page" else codes " pages")

-- 50 fields a second, to a hundredth of a second
abbrev pub seconds_text : ℕ → List ℕ
seconds_text fields = decimal (fields / 50) ++ 46 ∷ (48 + fields % 50 / 5) ∷ (48 + fields % 5 * 2) ∷ []

-- where late receivers are not served: with numbers above those of `splice`
abbrev pub reason_line : LateChange → List ℕ
reason_line Yes = splice_line splice.Yes
reason_line (No reason) = splice_line (splice.No reason)
reason_line (NeverShown page slot) = slot_words (codes "no 7 never-shown") page slot ++ 10 ∷ []
reason_line (TooFar gap) = codes "no 8 too-far " ++ decimal gap ++ 10 ∷ []
reason_line (Unfollowed page) = page_words (codes "no 9 unfollowed") page ++ 10 ∷ []

abbrev pub deadline_text : ℕ → List ℕ
deadline_text fields = codes ", deadline " ++ decimal fields ++ codes " fields (" ++ seconds_text fields ++ codes " s)"

pub record Tick : Type 0 where
  pub field : ℕ
  pub moment : Moment

abbrev pub tick_at : ℕ → Moment → Tick
tick_at field moment = record { field = field; moment = moment }

abbrev pub tick : Times → ℕ → Tick
tick times field = tick_at field (field_time times field)

abbrev pub field_text : Tick → List ℕ
field_text t = codes "field " ++ decimal t.field ++ codes " " ++ iso_text t.moment

-- what happened before this field
abbrev pub at_field : Tick → List ℕ → List ℕ
at_field t event = field_text t ++ event

-- a first edition
abbrev pub edition_text : Edition → List ℕ
edition_text e =
    pages_text (length e.pages) ++ deadline_text e.certificate.deadline ++ codes ", " ++ decimal (length e.cycle) ++ codes " slots\n"

-- the pages that are new, those that are gone, and the deadline
abbrev pub change_text : Edition → Edition → List ℕ
change_text old new =
    pages_text (lacking old.pages new.pages) ++ codes " new, " ++ decimal (lacking new.pages old.pages) ++ codes " gone, deadline "
    ++ decimal new.certificate.deadline ++ codes "\n"

abbrev pub first_line : Tick → List ℕ → Edition → List ℕ
first_line t mark first = at_field t (codes " on air" ++ mark ++ codes ": " ++ edition_text first)

abbrev pub changed_line : Tick → Edition → Candidate → List ℕ
changed_line t old new = at_field t (codes " changed" ++ new.mark ++ codes ": " ++ change_text old new.edition)

-- the reason ends the line
abbrev pub kept_line : Tick → List ℕ → List ℕ → List ℕ
kept_line t mark reason = at_field t (codes " kept" ++ mark ++ codes ": " ++ reason)

abbrev pub end_line : Tick → List ℕ
end_line t = at_field t (codes " end\n")

-- of the edition that was on the air in the period that ended
abbrev pub ending_line : Tick → Edition → Ending → List ℕ
ending_line t current Held = []
ending_line t current Quiet = []
ending_line t current (Unfit mark words) = kept_line t mark (words ++ codes "\n")
ending_line t current (Judged next verdict) =
    if is_yes verdict then changed_line t current next else kept_line t next.mark (reason_line verdict)
ending_line t current (Unjudged next) = kept_line t next.mark (codes "out of memory\n")

-- the newest one last
abbrev pub lines_of : Times → Edition → List Ending → List ℕ
lines_of times first [] = []
lines_of times first (ending ∷ past) =
    lines_of times first past ++ ending_line (tick times (field_after first past)) (playout_after first past).current ending
