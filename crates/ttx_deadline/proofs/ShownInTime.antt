-- What a deadline and a gap come to in whole fields, and what is shown by then.
use Rattle.std.proofs.Common.{◌≡◌, ℕ, ◌+◌, ◌*◌, ◌<◌, ◌≤◌, nat_lt, not, ◌==◌, Bool, true, false, if◌then◌else◌, List, length, Some, None, refl, arith}
use Rattle.std.proofs.lemmas.Bool.{eqb-true, ltb-false}
use Rattle.std.proofs.lemmas.Grind.{div_ceil_times}
use Rattle.std.proofs.Math.Nat.{add-mul, mul-le-mul_right}
use Rattle.ttx_cycle.specs.Files.{IsCycle}
use Rattle.ttx_page.specs.Pages.{Page}
use Rattle.ttx_source.specs.Services.{ServiceFields, pages_of}
use Rattle.ttx_certificate.specs.Entries.{CertificateFields, certificate_at}
use Rattle.ttx_certificate.specs.NamedStarts.{Certificate}
use Rattle.ttx_certify.specs.Seen.{Seen}
use Rattle.ttx_late.specs.Followed.{AllAreFollowed, IsGreatestGap}
use Rattle.ttx_late.specs.Laws.{FollowedIsWithin}
use Rattle.ttx_late.specs.LateVerdicts.{MeansLate}
use Rattle.ttx_late.specs.SeenLate.{SeenLate}
use Rattle.ttx_late.specs.declared.verdict.LateVerdict.TheVariants as late
use Rattle.ttx_deadline.specs.LateRequirements.{fields_up, late_deadline, first_late_unmet, unless_unmet, IsShownWithin, MeansLateRequired}
use Rattle.ttx_deadline.specs.declared.requirements.Unmet.{Unmet}
use Rattle.ttx_deadline.specs.declared.requirements.Unmet.TheVariants.{Lines, LateDeadline}

pub few_slots : FollowedIsWithin → (cycle : List (List ℕ)) (pages : List Page) (gap : ℕ) → IsCycle cycle → AllAreFollowed cycle pages →
    IsGreatestGap cycle pages gap → gap ≤ 65536
few_slots law cycle pages gap is followed greatest =
    let le = greatest.least (length cycle) (λ n p listed. law cycle p.id is.some (followed n p listed)) in
    let most = is.most in
    omega (arith, le, most)

in_slots : (gap lines deadline fields : ℕ) → 0 < lines → deadline + fields_up gap lines ≤ fields → deadline * lines + gap ≤ fields * lines
in_slots gap lines deadline fields some le =
    let up = (div_ceil_times gap lines some).0 in
    let more = mul-le-mul_right lines le in
    let parts = add-mul deadline (fields_up gap lines) lines in
    omega (arith, up, more, parts)

is_within : (cycle : List (List ℕ)) (pages : List Page) (p : Page) (w : Certificate) (gap fields : ℕ) → 0 < w.lines →
    w.deadline + fields_up gap w.lines ≤ fields → Seen cycle pages p w → SeenLate cycle pages p w gap → IsShownWithin cycle pages p w fields
is_within cycle pages p w gap fields some le seen shown =
    let enough = in_slots gap w.lines w.deadline fields some le in
    record {
      at_once = record {
        shown = λ sel fits tau former m received is permitted long run.
            seen.shown sel fits tau former m received is permitted (omega (arith, enough, long)) run;
      };
      late = record {
        shown = λ sel fits tau former d received is permitted long run.
            shown.shown sel fits tau former d received is permitted (omega (arith, enough, long)) run;
      };
    }

module _ (cycle : List (List ℕ)) (service : ServiceFields) (w : CertificateFields) (gap fields : ℕ) (some : 0 < w.lines)
    (means : MeansLate cycle (pages_of service) (certificate_at w) (late.Yes gap)) where
  by_tests : (same later : Bool) → (w.lines == service.lines) ≡ same → nat_lt fields (late_deadline w gap) ≡ later → (a b : Unmet) →
      MeansLateRequired cycle service w fields (unless_unmet (late.Yes gap) (if not same then Some a else if later then Some b else None))
  by_tests false later e f a b = tt
  by_tests true true e f a b = tt
  by_tests true false e f a b = (
    eqb-true w.lines service.lines e,
    λ n p listed.
        let m = means n p listed in
        is_within cycle (pages_of service) p (certificate_at w) gap fields some (ltb-false fields (late_deadline w gap) f) m.0 m.1,
  )

  pub shown_means : MeansLateRequired cycle service w fields (unless_unmet (late.Yes gap) (first_late_unmet service.lines w gap fields))
  shown_means =
      by_tests (w.lines == service.lines) (nat_lt fields (late_deadline w gap)) refl refl (Lines w.lines service.lines)
      (LateDeadline (late_deadline w gap) fields)
