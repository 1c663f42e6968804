-- What acceptance guarantees for receivers that take rows whole or not at all (profile).
--
--   MeansByRows             if the verdict is Yes, they see each page
--   MeansLateByRows         if the late verdict is Yes, they see each page at once, and those that show pages late show it
--   VerdictsMeanByRows, LateVerdictsMeanByRows      this is what each answer of `certify` and of `certify_late` means
--   FilesMeanByRows, LateFilesMeanByRows    the same for each answer of `certify_files` and of `certify_files_late`
use Rattle.std.specs.Prelude.{◌≡◌, ℕ, List, slice_get, Some}
use Rattle.ttx_page.specs.Pages.{Page}
use Rattle.ttx_witness.specs.Coverage.{Certificate, IsCertificate}
use Rattle.ttx_cycle.specs.Files.{IsCycle}
use Rattle.ttx_source.specs.Services.{pages_of}
use Rattle.ttx_certificate.specs.Entries.{certificate_at}
use Rattle.ttx_certify.specs.CertifyingFiles.{Certifies}
use Rattle.ttx_certify.specs.Laws.{ArePages}
use Rattle.ttx_certify.specs.Verdicts.{IsVerdict}
use Rattle.ttx_certify.specs.declared.verdict.Verdict.{Verdict}
use Rattle.ttx_certify.specs.declared.verdict.Verdict.TheVariants as certify
use Rattle.ttx_late.specs.CertifyingLate.{CertifiesLate}
use Rattle.ttx_late.specs.LateVerdicts.{IsLateVerdict}
use Rattle.ttx_late.specs.declared.verdict.LateVerdict.{LateVerdict}
use Rattle.ttx_late.specs.declared.verdict.LateVerdict.TheVariants.{Yes, No, NeverShown}
use Rattle.ttx_rows.specs.SeenByRows.{SeenByRows, SeenLateByRows}

abbrev pub MeansByRows : List (List ℕ) → List Page → Certificate → Verdict → Type 0
MeansByRows cycle pages w certify.Yes = (n : ℕ) (p : Page) → slice_get pages n ≡ Some p → SeenByRows cycle pages p w
MeansByRows cycle pages w (certify.No reason) = Unit {0}

abbrev pub MeansLateByRows : List (List ℕ) → List Page → Certificate → LateVerdict → Type 0
MeansLateByRows cycle pages w (Yes gap) = (n : ℕ) (p : Page) → slice_get pages n ≡ Some p →
    SeenByRows cycle pages p w × SeenLateByRows cycle pages p w gap
MeansLateByRows cycle pages w (No reason) = Unit {0}
MeansLateByRows cycle pages w (NeverShown page slot) = Unit {0}

-- The premise is what the clause `exact` of `certify` says of its answer.
abbrev pub VerdictsMeanByRows : Type 0
VerdictsMeanByRows =
    (cycle : List (List ℕ)) (pages : List Page) (w : Certificate) → IsCycle cycle → ArePages pages → IsCertificate w →
    (verdict : Verdict) → IsVerdict cycle pages w verdict → MeansByRows cycle pages w verdict

-- the same for the clause of `certify_late`
abbrev pub LateVerdictsMeanByRows : Type 0
LateVerdictsMeanByRows =
    (cycle : List (List ℕ)) (pages : List Page) (w : Certificate) → IsCycle cycle → ArePages pages → IsCertificate w →
    (verdict : LateVerdict) → IsLateVerdict cycle pages w verdict → MeansLateByRows cycle pages w verdict

-- Here the premise is what the clause `bytes` of `certify_files` says was read and judged. A further premise says that the pages of the
-- service and the certificate are in their ranges: the clause does not say it, although it holds for all that is read.
abbrev pub FilesMeanByRows : Type 0
FilesMeanByRows =
    (a b c : List ℕ) (verdict : Verdict) (line : List ℕ) (told : Certifies a b c verdict line) → ArePages (pages_of told.service) →
    IsCertificate (certificate_at told.w) → MeansByRows told.slots (pages_of told.service) (certificate_at told.w) verdict

abbrev pub LateFilesMeanByRows : Type 0
LateFilesMeanByRows =
    (a b c : List ℕ) (verdict : LateVerdict) (line : List ℕ) (told : CertifiesLate a b c verdict line) → ArePages (pages_of told.service) →
    IsCertificate (certificate_at told.w) → MeansLateByRows told.slots (pages_of told.service) (certificate_at told.w) verdict
