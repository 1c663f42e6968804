-- What happened, in sentences. Each is a line.
--
--   IsTellable              a counter-run whose numbers are in range
--   line                    a sentence as a line
--   page_name, number_name  the id and the number of a page
--   claim_text, setting_text, tuning_text   what the receiver does not show, what it is set to, where it is tuned
--   memory_text             why it shows something else
--   deadline_text           where the deadline passes
--   wrong_lines             what is received wrong
--   choice_lines            which packets are missed, and the other choices, and why a receiver may do so
--   sentences               all of them
use Rattle.std.specs.Prelude.{ℕ, ◌+◌, ◌*◌, ◌≤◌, ◌==◌, Bool, if◌then◌else◌, List, [], ◌∷◌, ◌++◌, codes, length, take}
use Rattle.std.specs.Fmt.{decimal}
use Rattle.ttx_counter.specs.Counters.{CounterRun}
use Rattle.ttx_counter.specs.declared.counter.Hit.{Hit}
use Rattle.ttx_counter.specs.declared.taken_choices.Taken.{Taken}
use Rattle.ttx_digits.specs.Digits.{hex_byte}
use Rattle.ttx_digits.specs.PageIds.{id_text}
use Rattle.ttx_failure.specs.Choices.{choice_items}
use Rattle.ttx_failure.specs.Forms.{line_start, line_end, list_start, list_end}
use Rattle.ttx_failure.specs.Hits.{AreBits, most_listed, hit_items, rest_item}
use Rattle.ttx_failure.specs.Places.{slot_of_run, place_text, time_text}
use Rattle.ttx_failure.specs.declared.forms.FailureForm.{FailureForm}
use Rattle.ttx_header.specs.Ids.{Id}

-- the printed numbers of a counter-run are in range
pub record IsTellable (c : CounterRun) : Type 0 where
  pub lined : 1 ≤ c.lines
  pub bits : AreBits c.hits
  pub lasts : c.deadline * c.lines ≤ c.slots

abbrev pub line : FailureForm → List ℕ → List ℕ
line form text = line_start form ++ text ++ line_end form

unfoldable pub page_name : Id → List ℕ
page_name id = id_text id

unfoldable pub number_name : Id → List ℕ
number_name id = (48 + id.mag) ∷ hex_byte id.page

unfoldable pub claim_text : Id → List ℕ
claim_text id = codes "A receiver that keeps all rules does not show page " ++ page_name id ++ codes " as it was authored."

unfoldable pub number_setting : Id → List ℕ
number_setting id = codes "It is set to page number " ++ number_name id ++ codes ", whatever the subpage."

unfoldable pub page_setting : Id → List ℕ
page_setting id = codes "It is set to page " ++ page_name id ++ codes "."

unfoldable pub setting_text : Bool → Id → List ℕ
setting_text any_sub id = if any_sub then number_setting id else page_setting id

unfoldable pub tuning_text : ℕ → ℕ → ℕ → List ℕ
tuning_text period lines start = codes "It is tuned at " ++ place_text lines (slot_of_run period start 0) ++ codes " of the cycle."

unfoldable pub memory_text : List ℕ
memory_text = codes "Anything that it has not received since then is left over from before."

unfoldable pub fields_text : ℕ → List ℕ
fields_text deadline = codes "The deadline of " ++ decimal deadline ++ codes " fields ("

unfoldable pub limit_text : ℕ → List ℕ
limit_text deadline = fields_text deadline ++ time_text deadline ++ codes " s) passes at "

unfoldable pub counted_text : ℕ → ℕ → List ℕ
counted_text limit slots =
    codes " of the cycle, " ++ decimal limit ++ codes " slots after tuning; " ++ decimal slots ++ codes " slots are received."

unfoldable pub deadline_text : ℕ → ℕ → ℕ → ℕ → ℕ → List ℕ
deadline_text period lines start deadline slots =
    limit_text deadline ++ place_text lines (slot_of_run period start (deadline * lines)) ++ counted_text (deadline * lines) slots

unfoldable pub wrong_text : ℕ → List ℕ
wrong_text count = codes "Bytes received wrong: " ++ decimal count ++ codes "."

unfoldable pub rule_text : ℕ → List ℕ
rule_text repeat =
    if repeat == 1 then codes "One bit of a byte may be wrong, but each character is received right."
    else codes "One bit of a byte may be wrong; of " ++ decimal repeat ++ codes " successive transmissions of a character one is received right."

unfoldable pub hit_list : FailureForm → List (List ℕ) → ℕ → ℕ → List Hit → List ℕ
hit_list form slots lines start hits =
    list_start form ++ hit_items form slots (length slots) lines start (take most_listed hits) ++ rest_item form (length hits) ++ list_end form

unfoldable pub wrong_list : FailureForm → List (List ℕ) → ℕ → ℕ → ℕ → List Hit → List ℕ
wrong_list form slots lines start repeat hits = line form (rule_text repeat) ++ hit_list form slots lines start hits

unfoldable pub wrong_lines : FailureForm → List (List ℕ) → ℕ → ℕ → ℕ → List Hit → List ℕ
wrong_lines form slots lines start repeat hits =
    line form (wrong_text (length hits)) ++ (if length hits == 0 then [] else wrong_list form slots lines start repeat hits)

unfoldable pub count_text : ℕ → List ℕ
count_text count = codes "Packets missed, and other choices: " ++ decimal count ++ codes "."

unfoldable pub miss_text : ℕ → List ℕ
miss_text lines = codes "A receiver may miss a row or links up to " ++ decimal lines ++ codes " slots behind their header, "

unfoldable pub other_text : List ℕ
other_text = codes "clear what it holds at the first header of its page, and take a header of another magazine with C11 for the end of the page."

unfoldable pub may_text : ℕ → List ℕ
may_text lines = miss_text lines ++ other_text

-- of a receiver of a page of magazine `own`
unfoldable pub choice_list : FailureForm → ℕ → List (List ℕ) → ℕ → ℕ → List Taken → List ℕ
choice_list form own slots lines start taken =
    list_start form ++ choice_items form own slots (length slots) lines start (take most_listed taken) ++ rest_item form (length taken)
    ++ list_end form

unfoldable pub choices_made : FailureForm → ℕ → List (List ℕ) → ℕ → ℕ → List Taken → List ℕ
choices_made form own slots lines start taken = line form (may_text lines) ++ choice_list form own slots lines start taken

unfoldable pub choice_lines : FailureForm → ℕ → List (List ℕ) → ℕ → ℕ → List Taken → List ℕ
choice_lines form own slots lines start taken =
    line form (count_text (length taken)) ++ (if length taken == 0 then [] else choices_made form own slots lines start taken)

unfoldable pub who_lines : FailureForm → Bool → Id → List ℕ
who_lines form any_sub id = line form (claim_text id) ++ line form (setting_text any_sub id)

unfoldable pub where_lines : FailureForm → ℕ → ℕ → ℕ → List ℕ
where_lines form period lines start = line form (tuning_text period lines start) ++ line form memory_text

unfoldable pub sentences : FailureForm → Id → List (List ℕ) → CounterRun → List Taken → List ℕ
sentences form id slots c taken =
    who_lines form c.any_sub id ++ where_lines form (length slots) c.lines c.start ++ wrong_lines form slots c.lines c.start c.repeat c.hits
    ++ choice_lines form id.mag slots c.lines c.start taken
    ++ line form (deadline_text (length slots) c.lines c.start c.deadline c.slots)
