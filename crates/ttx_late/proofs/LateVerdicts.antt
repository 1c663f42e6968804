-- The verdict on an accepted cycle, for receivers that may show pages late.
use Rattle.std.proofs.Common.{◌≡◌, ◌<◌, ℕ, List, length, map, get_or, sym, ap, ◌∙◌, arith}
use Rattle.std.proofs.lemmas.List.{length-map}
use Rattle.std.proofs.lemmas.Option.{slice_get_within}
use Rattle.ttx_header.specs.Ids.{Id}
use Rattle.ttx_page.specs.Pages.{Page}
use Rattle.ttx_page.specs.declared.page.Page.{Page as PageValue}
use Rattle.ttx_page.specs.Views.{page_of}
use Rattle.ttx_cycle.specs.Files.{IsCycle}
use Rattle.ttx_witness.specs.Coverage.{Certificate, IsCertificate, Accepts}
use Rattle.ttx_certify.specs.Laws.{ArePages}
use Rattle.ttx_certify.specs.Verdicts.{Means}
use Rattle.ttx_certify.specs.declared.verdict.Verdict.TheVariants as certifier
use Rattle.ttx_late.specs.Followed.{IsFirstUnshown}
use Rattle.ttx_late.specs.Laws.{AcceptedIsShown}
use Rattle.ttx_late.specs.LateVerdicts.{IsNeverShown, IsFollowedVerdict, IsLateVerdict, MeansLate}
use Rattle.ttx_late.specs.declared.unshown.Unshown.{Unshown}
use Rattle.ttx_late.specs.declared.verdict.LateVerdict.{LateVerdict}
use Rattle.ttx_late.specs.declared.verdict.LateVerdict.TheVariants.{Yes, No, NeverShown}
use Rattle.ttx_certify.proofs.PageByPage.{page_at}

pub never_shown : (cycle : List (List ℕ)) (pages : List PageValue) (u : Unshown) → IsFirstUnshown cycle (map page_of pages) u →
    (p : PageValue) → p ≡ get_or pages u.page p →
    (id : Id) → id ≡ p.id → IsNeverShown cycle (map page_of pages) id u.slot
never_shown cycle pages u first p at id is =
    let lt : u.page < length pages = let k = slice_get_within (map page_of pages) u.page first.page first.listed in let l =
    length-map pages page_of in omega arith in
    let there = page_at pages u.page p lt at in
    let listed = first.listed in
    let same : first.page ≡ page_of p = cc in
    record { index = u.page; first = first; is = ap (λ q. q.id) same ∙ sym is }

module _ (cycle : List (List ℕ)) (pages : List Page) (w : Certificate) (accepts : Accepts cycle pages w) where
  pub late_exact : (verdict : LateVerdict) → IsFollowedVerdict cycle pages verdict → IsLateVerdict cycle pages w verdict
  late_exact (Yes gap) f = (accepts, f.0, f.1)
  late_exact (No reason) f = absurd f
  late_exact (NeverShown page slot) f = (accepts, f)

  pub late_means : AcceptedIsShown → IsCycle cycle → ArePages pages → IsCertificate w → Means cycle pages w certifier.Yes →
      (verdict : LateVerdict) → IsFollowedVerdict cycle pages verdict → MeansLate cycle pages w verdict
  late_means shown is_cycle are is_certificate seen (Yes gap) f = λ n p listed.
      (seen n p listed, shown cycle pages w is_cycle are is_certificate accepts n p listed gap (f.1.within n p listed))
  late_means shown is_cycle are is_certificate seen (No reason) f = tt
  late_means shown is_cycle are is_certificate seen (NeverShown page slot) f = tt
