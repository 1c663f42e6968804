-- How an air opens (profile).
--
--   IsFit, IsMisfit         the house of a planned service, and its certificate; it needs more time than there is
--   IsOpening               the house of an air, and the edition of its first text
--   IsUnplannedFirst, IsTooMuch     why there is none: the text has no plan; its edition needs more time than there is
--   IsNoOpening             any such reason, or `check` refuses the text
use Rattle.std.specs.Prelude.{◌⊎◌, ℕ, ◌-◌, List}
use Rattle.ttx_air.specs.Newsrooms.{Candidate}
use Rattle.ttx_source.specs.Promises.{PromiseFields}
use Rattle.ttx_source.specs.Services.{ServiceFields, pages_of}
use Rattle.ttx_certificate.specs.Entries.{CertificateFields}
use Rattle.ttx_certify.specs.declared.verdict.Verdict.TheVariants.{Yes}
use Rattle.ttx_deadline.specs.Deadlines.{IsFoundWith}
use Rattle.ttx_press.specs.Houses.{asked_of}
use Rattle.ttx_press.specs.Editions.{IsScript, IsPlanBy}
use Rattle.ttx_press.specs.Presses.{IsFirst}
use Rattle.ttx_press.specs.Refusals.{IsCheckRefusal, IsNoPlanBy, IsSlowness}
use Rattle.ttx_press.specs.Shares.{viewers_in, IsShared, IsUnshared}
use Rattle.ttx_press.specs.declared.demand.Demand.{Demand}
use Rattle.ttx_press.specs.declared.house.House.{House}

-- the house of a planned service, and its certificate
pub record IsFit (d : Demand) (cycle : List (List ℕ)) (sent : ServiceFields) (h : House) (w : CertificateFields) : Type 0 where
  pub shared : IsShared d cycle (pages_of sent) sent.lines h
  pub found : IsFoundWith cycle (pages_of sent) sent.lines (asked_of h) w Yes

-- the words name the pages for which viewers wait longer than what the gap leaves
pub record IsMisfit (d : Demand) (cycle : List (List ℕ)) (sent : ServiceFields) (words : List ℕ) : Type 0 where
  pub gap : ℕ
  pub more : IsUnshared d cycle (pages_of sent) sent.lines gap
  pub slow : IsSlowness d.repeat (d.within - gap) cycle sent words

pub record IsOpening (d : Demand) (text : List ℕ) (h : House) (first : Candidate) : Type 0 where
  pub printed : IsFirst h text first
  pub shared : IsShared d first.edition.cycle first.edition.pages first.edition.certificate.lines h

pub record IsUnplannedFirst (d : Demand) (text words : List ℕ) : Type 0 where
  pub service : ServiceFields
  pub promises : List PromiseFields
  pub script : IsScript text service promises
  pub no_plan : IsNoPlanBy d.spread (viewers_in d) service promises words

pub record IsTooMuch (d : Demand) (text words : List ℕ) : Type 0 where
  pub service : ServiceFields
  pub promises : List PromiseFields
  pub script : IsScript text service promises
  pub sent : ServiceFields
  pub cycle : List (List ℕ)
  pub plan : IsPlanBy d.spread (viewers_in d) service promises sent cycle
  pub misfit : IsMisfit d cycle sent words

abbrev pub IsNoOpening : Demand → List ℕ → List ℕ → Type 0
IsNoOpening d text words = IsCheckRefusal text words ⊎ (IsUnplannedFirst d text words ⊎ IsTooMuch d text words)
