-- The edition of a text (profile).
--
--   IsScriptBy, IsScript    a service and its promises, as a text says them: a service text itself, an author's text by the service text that it is
--                           composed into
--   IsPlain, IsPlanBy, IsPlanFor    the plan of a service; also a spread plan, of the service sent as often as its promises need; that of a house
--   IsPrinted               the edition of a text
--   IsUnplanned, IsTooSlowText      a text whose service has no plan; one for whose plan no certificate has the deadline of the house
--   IsSpoilt                why a text has no edition, in the words that the log has of it
use Rattle.std.specs.Prelude.{◌≡◌, ◌⊎◌, ℕ, Bool, true, false, List, Ok}
use Rattle.ttx_author_files.specs.AuthorTexts.{is_author_text, IsTextBy}
use Rattle.ttx_certificate.specs.Entries.{CertificateFields, certificate_at}
use Rattle.ttx_certify.specs.declared.verdict.Verdict.TheVariants.{Yes}
use Rattle.ttx_deadline.specs.Deadlines.{IsFoundWith}
use Rattle.ttx_plan.specs.Carries.{Carries}
use Rattle.ttx_playout.specs.Schedules.{Edition}
use Rattle.ttx_promise.specs.Promises.{IsRaised, KeepsPromises}
use Rattle.ttx_promise.specs.declared.promised_plan.Viewers.{Viewers}
use Rattle.ttx_source.specs.Promises.{PromiseFields, read_promises}
use Rattle.ttx_source.specs.Services.{ServiceFields, pages_of, read_bytes}
use Rattle.ttx_press.specs.Houses.{asked_of, viewers_of}
use Rattle.ttx_press.specs.Refusals.{IsCheckRefusal, IsNoPlan, IsTooSlow}
use Rattle.ttx_press.specs.declared.house.House.{House}

-- the service text that the text stands for, by whether it is an author's text, says them
pub record IsScriptBy (is_author : Bool) (text : List ℕ) (service : ServiceFields) (promises : List PromiseFields) : Type 0 where
  pub said : List ℕ
  pub stands : IsTextBy is_author text said
  pub service_is : read_bytes said ≡ Ok service
  pub promises_are : read_promises said ≡ Ok promises

abbrev pub IsScript : List ℕ → ServiceFields → List PromiseFields → Type 0
IsScript text service promises = IsScriptBy (is_author_text text) text service promises

-- the cycle of `plan`
abbrev pub IsPlain : Viewers → ServiceFields → ServiceFields → List (List ℕ) → Type 0
IsPlain v service sent cycle = (sent ≡ service) × Carries v.receivers.late v.receivers.class sent cycle

-- or that of `plan --spread`, which keeps each promise; pages with a promise may be sent more often
abbrev pub IsPlanBy : Bool → Viewers → ServiceFields → List PromiseFields → ServiceFields → List (List ℕ) → Type 0
IsPlanBy false v service promises sent cycle = IsPlain v service sent cycle
IsPlanBy true v service promises sent cycle = IsRaised promises service sent × KeepsPromises v promises sent cycle

abbrev pub IsPlanFor : House → ServiceFields → List PromiseFields → ServiceFields → List (List ℕ) → Type 0
IsPlanFor h service promises sent cycle = IsPlanBy h.spread (viewers_of h) service promises sent cycle

-- the service of the text is planned, and the cycle accepted with the certificate that is found for the deadline of the house
pub record IsPrinted (h : House) (text : List ℕ) (e : Edition) : Type 0 where
  pub service : ServiceFields
  pub promises : List PromiseFields
  pub script : IsScript text service promises
  pub sent : ServiceFields
  pub plan : IsPlanFor h service promises sent e.cycle
  pub pages : e.pages ≡ pages_of sent
  pub w : CertificateFields
  pub found : IsFoundWith e.cycle (pages_of sent) sent.lines (asked_of h) w Yes
  pub certificate : e.certificate ≡ certificate_at w

-- the service of the text has no plan, in these words
pub record IsUnplanned (h : House) (text words : List ℕ) : Type 0 where
  pub service : ServiceFields
  pub promises : List PromiseFields
  pub script : IsScript text service promises
  pub no_plan : IsNoPlan h service promises words

-- the service is planned, but the certificate that is found is not accepted for the deadline of the house: the words name the slow pages
pub record IsTooSlowText (h : House) (text words : List ℕ) : Type 0 where
  pub service : ServiceFields
  pub promises : List PromiseFields
  pub script : IsScript text service promises
  pub sent : ServiceFields
  pub cycle : List (List ℕ)
  pub plan : IsPlanFor h service promises sent cycle
  pub slow : IsTooSlow h cycle sent words

-- the text has a mistake; its service has no plan; or a viewer waits longer than the deadline for some page
abbrev pub IsSpoilt : House → List ℕ → List ℕ → Type 0
IsSpoilt h text words = IsCheckRefusal text words ⊎ (IsUnplanned h text words ⊎ IsTooSlowText h text words)
