-- What the verdict is and says where a cycle is accepted for receivers that show a page late.
use Rattle.std.proofs.Common.{◌≡◌, ℕ, ◌+◌, List, Option, Some, None, MatchOption, subst}
use Rattle.ttx_cycle.specs.Files.{IsCycle}
use Rattle.ttx_page.specs.Pages.{Page}
use Rattle.ttx_page.specs.Streams.{repeated}
use Rattle.ttx_witness.specs.Coverage.{Certificate, IsCertificate, limit}
use Rattle.ttx_certify.specs.Laws.{ArePages}
use Rattle.ttx_late.specs.LateVerdicts.{IsLateVerdict}
use Rattle.ttx_late.specs.declared.verdict.LateVerdict.TheVariants as late
use Rattle.ttx_subpages.specs.Lacks.{IsFirstLack}
use Rattle.ttx_subpages.specs.Laws.{AcceptedAreSeen, AcceptedAreSeenAgain, AcceptedAreHeld, StaysAreShown}
use Rattle.ttx_subpages.specs.Numbers.{AllSendWhole}
use Rattle.ttx_subpages.specs.NumbersVerdicts.{verdict_with, IsNumbersVerdict, MeansNumbers}
use Rattle.ttx_subpages.specs.declared.lack.Lack.{Lack}

-- the first lack, by the pages of a service and the lines of a certificate
pub lack_is : (cycle : List (List ℕ)) (w : Certificate) (lack : Option Lack) (own pages : List Page) (lines : ℕ) → own ≡ pages → lines ≡ w.lines →
    MatchOption lack (AllSendWhole (repeated cycle) own lines) (IsFirstLack cycle own lines) →
    MatchOption lack (AllSendWhole (repeated cycle) pages w.lines) (IsFirstLack cycle pages w.lines)
lack_is cycle w lack own pages lines same fields is =
    subst (λ n. MatchOption lack (AllSendWhole (repeated cycle) pages n) (IsFirstLack cycle pages n)) fields
    (subst (λ ps. MatchOption lack (AllSendWhole (repeated cycle) ps lines) (IsFirstLack cycle ps lines)) same is)

module _ (cycle : List (List ℕ)) (pages : List Page) (w : Certificate) (gap : ℕ) (told : IsLateVerdict cycle pages w (late.Yes gap)) where
  abbrev Lacks : Option Lack → Type 0
  Lacks lack = MatchOption lack (AllSendWhole (repeated cycle) pages w.lines) (IsFirstLack cycle pages w.lines)

  pub exact_with : (lack : Option Lack) → Lacks lack → IsNumbersVerdict cycle pages w (verdict_with gap lack)
  exact_with None whole = (told, whole)
  exact_with (Some lack) first = (gap, told, first)

  pub means_with : AcceptedAreSeen → AcceptedAreSeenAgain → StaysAreShown → AcceptedAreHeld → IsCycle cycle → ArePages pages → IsCertificate w →
      (lack : Option Lack) → Lacks lack → MeansNumbers cycle pages w (verdict_with gap lack)
  means_with seen again stays held is_cycle are is_certificate None whole = λ mag number several p sub.
      let turn = seen cycle pages w is_cycle are is_certificate told.0 gap told.2.within mag number (whole mag number several) p sub in
      record {
        turn = turn;
        again = again cycle pages w is_cycle are is_certificate told.0 gap told.2.within mag number (whole mag number several) p sub;
        stays = stays (repeated cycle) pages w.class w.lines (limit w + gap) mag number p sub turn;
        held = held cycle pages w is_cycle are is_certificate told.0 mag number p sub;
      }
  means_with seen again stays held is_cycle are is_certificate (Some lack) first = tt
