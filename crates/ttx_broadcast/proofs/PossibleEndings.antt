-- How an airing may end whose first edition has an opening.
use Rattle.std.proofs.Common.{◌≡◌, ◌<◌, ◌≤◌, ◌∙◌, ℕ, ◌*◌, pos, true, false, Bool, List, Ok, Err, Result, length, subst, sym, ap, arith}
use Rattle.std.specs.Prelude.{⊤}
use Rattle.std.proofs.Math.Nat.{mul-le-mul_right}
use Rattle.std.proofs.lemmas.Grind.{div_ceil_times}
use Rattle.ttx_header.specs.Ids.{Id}
use Rattle.ttx_deadline.specs.LateRequirements.{fields_up}
use Rattle.ttx_witness.specs.Coverage.{IsCertificate}
use Rattle.ttx_air.specs.Airings.{Airtime, Scene, Airs}
use Rattle.ttx_air.specs.Judgements.{IsRefused, IsUnserved}
use Rattle.ttx_air.specs.Newsrooms.{Candidate, News}
use Rattle.ttx_air.specs.declared.airtime.Receivers.{Receivers}
use Rattle.ttx_air.specs.declared.airtime.Receivers.TheVariants.{AtOnce, Late}
use Rattle.ttx_air.specs.declared.faults.AirFault.{AirFault}
use Rattle.ttx_air.specs.declared.faults.AirFault.TheVariants as air
use Rattle.ttx_playout.specs.declared.faults.StartFault.TheVariants as start
use Rattle.ttx_playout.specs.Schedules.{Edition}
use Rattle.ttx_certificate.specs.Entries.{certificate_at}
use Rattle.ttx_certify.specs.VerdictLaws.{VerdictsAreOne}
use Rattle.ttx_certify.specs.Verdicts.{IsVerdict}
use Rattle.ttx_certify.specs.declared.verdict.Verdict.{Verdict}
use Rattle.ttx_certify.specs.declared.verdict.Verdict.TheVariants.{Yes, No}
use Rattle.ttx_page.specs.declared.class.Class.{Class}
use Rattle.ttx_page.specs.declared.class.Class.TheVariants.{Any, Clearing}
use Rattle.ttx_witness.specs.declared.faults.reason.Reason.{Reason}
use Rattle.ttx_press.specs.declared.demand.Demand.{Demand}
use Rattle.ttx_press.specs.declared.house.House.{House}
use Rattle.ttx_press.specs.Editions.{IsPrinted}
use Rattle.ttx_press.specs.Openings.{IsOpening}
use Rattle.ttx_press.specs.Shares.{IsGapInFields, gap_share, receivers_with}
use Rattle.ttx_broadcast.specs.Broadcasts.{MayEnd}

abbrev IsYes : Verdict → Type 0
IsYes Yes = Unit {0}
IsYes (No reason) = ⊥

abbrev IsAny : Class → Type 0
IsAny Any = Unit {0}
IsAny Clearing = ⊥

class_is : {h : House} {text : List ℕ} {e : Edition} → IsPrinted h text e → e.certificate.class ≡ Any
class_is p = ap (λ c. c.class) (p.certificate ∙ p.found.same) ∙ p.found.is.same_class

not_refused : VerdictsAreOne → {h : House} {text : List ℕ} {e : Edition} → IsPrinted h text e → 0 < length e.cycle → (reason : Reason) →
    IsVerdict e.cycle e.pages e.certificate (No reason) → ⊥
not_refused one {h} {text} {e} p some reason refused =
    let ranges = subst IsCertificate (sym p.certificate) p.found.ranges in
    let listed = subst (λ pages. IsVerdict e.cycle pages (certificate_at p.w) Yes) (sym p.pages) p.found.certified in
    let accepted = subst (λ w. IsVerdict e.cycle e.pages w Yes) (sym p.certificate) listed in
    subst IsYes (one e.cycle e.pages e.certificate some ranges Yes (No reason) accepted refused) tt

never_shown : (late : Bool) (e : Edition) (lines gap slots : ℕ) (page : Id) (slot : ℕ) → IsGapInFields late e.cycle e.pages lines gap →
    IsUnserved (receivers_with late slots) e (air.NeverShown page slot) → ⊥
never_shown false e lines gap slots page slot gap_is unserved = unserved
never_shown true e lines gap slots page slot gap_is unserved =
    let here = unserved.first.here in
    here.1 ((gap_is.1.within unserved.index unserved.first.page unserved.first.listed (pos slot) here.0).0)

too_far : (late : Bool) (e : Edition) (lines gap share greatest : ℕ) → 0 < lines → gap ≤ share → IsGapInFields late e.cycle e.pages lines gap →
    IsUnserved (receivers_with late (share * lines)) e (air.TooFar greatest) → ⊥
too_far false e lines gap share greatest some enough gap_is unserved = unserved
too_far true e lines gap share greatest some enough gap_is unserved =
    let slots = gap_is.0 in
    let least = unserved.0.least slots gap_is.1.within in
    let up = (div_ceil_times slots lines some).0 in
    let fits : fields_up slots lines ≤ share = subst (λ n. n ≤ share) gap_is.2 enough in
    let more = mul-le-mul_right lines fits in
    let far = unserved.1 in
    omega (arith, least, up, more, far)

module _ (one : VerdictsAreOne) {d : Demand} {text : List ℕ} {h : House} {first : Candidate} (o : IsOpening d text h first)
    (some : 0 < length first.edition.cycle) where
  some_lines : 0 < first.edition.certificate.lines
  some_lines =
      let ranges = subst IsCertificate (sym o.printed.0.certificate) o.printed.0.found.ranges in
      let least = ranges.some_lines in
      omega (arith, least)

  not_started : (fault : AirFault) → IsRefused h.receivers first.edition fault → MayEnd (Err fault)
  not_started (air.Start (start.Refused reason)) refused = not_refused one o.printed.0 some reason refused
  not_started (air.Start start.Clearing) refused = subst IsAny (sym (class_is o.printed.0) ∙ refused.1) tt
  not_started (air.Start start.NoMemory) refused = tt
  not_started (air.NeverShown page slot) refused =
      never_shown d.late first.edition first.edition.certificate.lines o.shared.gap (gap_share d.within o.shared.least o.shared.gap * first.edition.certificate.lines) page slot o.shared.needs.late
      (subst (λ r. IsUnserved r first.edition (air.NeverShown page slot)) o.shared.house.receivers refused.2)
  not_started (air.TooFar greatest) refused =
      too_far d.late first.edition first.edition.certificate.lines o.shared.gap (gap_share d.within o.shared.least o.shared.gap) greatest some_lines o.shared.room o.shared.needs.late
      (subst (λ r. IsUnserved r first.edition (air.TooFar greatest)) o.shared.house.receivers refused.2)
  not_started (air.Write fault) refused = tt

  pub may_end : {N : Type 0} (gives : N → Edition → ℕ → News → N → Type 0) (airtime : Airtime) (before after : Scene N) →
      airtime.receivers ≡ h.receivers → (aired : Result ⊤ AirFault) → Airs gives airtime first before after aired → MayEnd aired
  may_end gives airtime before after same (Ok done) airs = tt
  may_end gives airtime before after same (Err (air.Write fault)) airs = tt
  may_end gives airtime before after same (Err (air.Start fault)) airs =
      not_started (air.Start fault) (subst (λ r. IsRefused r first.edition (air.Start fault)) same airs.0)
  may_end gives airtime before after same (Err (air.NeverShown page slot)) airs =
      not_started (air.NeverShown page slot) (subst (λ r. IsRefused r first.edition (air.NeverShown page slot)) same airs.0)
  may_end gives airtime before after same (Err (air.TooFar gap)) airs =
      not_started (air.TooFar gap) (subst (λ r. IsRefused r first.edition (air.TooFar gap)) same airs.0)
