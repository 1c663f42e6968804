-- Refusals in words (profile).
--
--   Says                    a fact about the words of a refusal; lack of memory has none
--   numbers_words, page_words, late_part, late_words    the pages that come too late: `late 101/0000 131 fields of 128, 102/0000 ..`
--   slow_page, slow_pages   the pages for which viewers wait longer than a deadline
--   IsCheckRefusalBy, IsCheckRefusal    the words of the line with which `check` refuses a service text; those about an author's text that has a mistake
--   IsNoPlain, IsNoPlanBy, IsNoPlan     why a service has no plan
--   IsSlowness, IsTooSlow   no certificate with the deadline is accepted, and the pages that are too slow
use Rattle.std.specs.Prelude.{◌≡◌, ◌⊎◌, ℕ, ◌+◌, ◌<◌, ◌==◌, nat_lt, if◌then◌else◌, Bool, true, false, List, [], ◌∷◌, ◌++◌, codes, string_bytes}
use Rattle.std.specs.Fmt.{decimal}
use Rattle.ttx_header.specs.Ids.{Id}
use Rattle.ttx_digits.specs.PageIds.{id_text}
use Rattle.ttx_author_files.specs.AuthorTexts.{is_author_text}
use Rattle.ttx_certificate.specs.Entries.{CertificateFields}
use Rattle.ttx_certify.specs.declared.verdict.Verdict.TheVariants.{No}
use Rattle.ttx_check.specs.Reports.{IsServiceReport}
use Rattle.ttx_deadline.specs.Deadlines.{IsFoundWith}
use Rattle.ttx_air.specs.declared.press.PressFault.{PressFault}
use Rattle.ttx_air.specs.declared.press.PressFault.TheVariants.{Refused, NoMemory}
use Rattle.ttx_page.specs.declared.class.Class.TheVariants.{Any}
use Rattle.ttx_plan.specs.Blocks.{length_bound}
use Rattle.ttx_plan.specs.Carries.{blocks_sent}
use Rattle.ttx_plan.specs.Spread.{IsTooLongSpread}
use Rattle.ttx_promise.specs.Lateness.{LateFields, late_at}
use Rattle.ttx_promise.specs.Promises.{IsRaised, IsMissed}
use Rattle.ttx_promise.specs.declared.promised_plan.Viewers.{Viewers}
use Rattle.ttx_source.specs.Promises.{PromiseFields}
use Rattle.ttx_source.specs.Services.{ServiceFields, pages_of}
use Rattle.ttx_witness.specs.declared.faults.reason.Reason.{Reason}
use Rattle.ttx_witness.specs.declared.wait_times.wait.PageWait.{PageWait}
use Rattle.ttx_witness.specs.declared.wait_times.wait.Wait.{Wait}
use Rattle.ttx_witness.specs.declared.wait_times.wait.Wait.TheVariants.{Fields}
use Rattle.ttx_witness.specs.wait_times.PageWaits.{AreWaits}
use Rattle.ttx_press.specs.AuthorRefusals.{IsAuthorRefusal}
use Rattle.ttx_press.specs.Houses.{asked_of, viewers_of}
use Rattle.ttx_press.specs.declared.house.House.{House}

abbrev pub Says : (List ℕ → Type 0) → PressFault → Type 0
Says P (Refused words) = P (string_bytes words)
Says P NoMemory = Unit {0}

unfoldable pub numbers_words : ℕ → ℕ → List ℕ
numbers_words fields allowed = codes " " ++ decimal fields ++ codes " fields" ++ codes " of " ++ decimal allowed

unfoldable pub page_words : LateFields → List ℕ
page_words late = id_text late.page ++ numbers_words late.fields late.promise

-- a page, and its number in the list
abbrev pub late_part : ℕ → LateFields → List ℕ
late_part number late = (if number == 0 then [] else codes ", ") ++ page_words late

abbrev pub late_parts : ℕ → List LateFields → List ℕ
late_parts number [] = []
late_parts number (late ∷ rest) = late_part number late ++ late_parts (number + 1) rest

abbrev pub late_words : List LateFields → List ℕ
late_words pages = codes "late " ++ late_parts 0 pages

abbrev pub slow_page : ℕ → Id → Wait → List LateFields
slow_page deadline page (Fields fields item) = if nat_lt deadline fields then late_at page fields deadline ∷ [] else []
slow_page deadline page _ = []

abbrev pub slow_pages : ℕ → List PageWait → List LateFields
slow_pages deadline [] = []
slow_pages deadline (told ∷ rest) = slow_page deadline told.page told.wait ++ slow_pages deadline rest

-- by whether the text is an author's text
abbrev pub IsCheckRefusalBy : Bool → List ℕ → List ℕ → Type 0
IsCheckRefusalBy true text words = IsAuthorRefusal text words
IsCheckRefusalBy false text words = IsServiceReport text (words ++ 10 ∷ []) 2

abbrev pub IsCheckRefusal : List ℕ → List ℕ → Type 0
IsCheckRefusal text words = IsCheckRefusalBy (is_author_text text) text words

-- as `plan` says it
abbrev pub IsNoPlain : Viewers → ServiceFields → List ℕ → Type 0
IsNoPlain v service words =
    ((service.pages ≡ []) × (words ≡ codes "plan 1 no-pages"))
    ⊎ ((65536 < length_bound service.lines (blocks_sent v.receivers.late v.receivers.class service.pages)) × (words ≡ codes "plan 2 too-long"))

-- the pages that come too late for their promises, none of which can be sent more often
pub record IsLatePlan (v : Viewers) (promises : List PromiseFields) (service : ServiceFields) (words : List ℕ) : Type 0 where
  pub sent : ServiceFields
  pub raised : IsRaised promises service sent
  pub cycle : List (List ℕ)
  pub pages : List LateFields
  pub missed : IsMissed v promises sent cycle pages
  pub words_are : words ≡ late_words pages

-- as `plan --spread` says it
abbrev pub IsNoSpread : Viewers → ServiceFields → List PromiseFields → List ℕ → Type 0
IsNoSpread v service promises words =
    ((service.pages ≡ []) × (words ≡ codes "plan 1 no-pages"))
    ⊎ ((IsTooLongSpread v.receivers.late v.receivers.class service × (words ≡ codes "plan 2 too-long"))
    ⊎ IsLatePlan v promises service words)

abbrev pub IsNoPlanBy : Bool → Viewers → ServiceFields → List PromiseFields → List ℕ → Type 0
IsNoPlanBy false v service promises words = IsNoPlain v service words
IsNoPlanBy true v service promises words = IsNoSpread v service promises words

abbrev pub IsNoPlan : House → ServiceFields → List PromiseFields → List ℕ → Type 0
IsNoPlan h service promises words = IsNoPlanBy h.spread (viewers_of h) service promises words

-- the pages for which viewers wait longer than so many fields
pub record IsSlowness (repeat limit : ℕ) (cycle : List (List ℕ)) (service : ServiceFields) (words : List ℕ) : Type 0 where
  pub told : List PageWait
  pub waits : AreWaits cycle (pages_of service) Any repeat service.lines told
  pub words_are : words ≡ late_words (slow_pages limit told)

-- the certificate that is found is not accepted with that deadline
pub record IsTooSlow (h : House) (cycle : List (List ℕ)) (service : ServiceFields) (words : List ℕ) : Type 0 where
  pub w : CertificateFields
  pub reason : Reason
  pub found : IsFoundWith cycle (pages_of service) service.lines (asked_of h) w (No reason)
  pub slow : IsSlowness h.repeat h.deadline cycle service words
