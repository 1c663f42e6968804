-- The verdict on all numbers with several pages (profile).
--
--   IsYes                   a yes of the certifier for receivers that show a page late
--   verdict_with            the verdict if that is yes, by what is missing first
--   IsNumbersVerdict        the verdict on a cycle, pages and a certificate
--   IsSeenByNumber          how viewers see a subpage
--   MeansNumbers            if it is Yes, the subpages of each such number are seen so
use Rattle.std.specs.Prelude.{ℕ, ◌+◌, List, Option, Some, None}
use Rattle.ttx_page.specs.Pages.{Page}
use Rattle.ttx_page.specs.declared.selection.Selection.TheVariants.{Exact, AnySub}
use Rattle.ttx_page.specs.Streams.{repeated}
use Rattle.ttx_witness.specs.Coverage.{Certificate, limit}
use Rattle.ttx_late.specs.LateVerdicts.{IsLateVerdict}
use Rattle.ttx_late.specs.declared.verdict.LateVerdict.{LateVerdict}
use Rattle.ttx_late.specs.declared.verdict.LateVerdict.TheVariants as late
use Rattle.ttx_subpages.specs.WholeBlocks.{IsSubpage}
use Rattle.ttx_subpages.specs.SeenInTurn.{SeenInTurn, SeenForAWhile}
use Rattle.ttx_subpages.specs.Numbers.{HasSeveral, AllSendWhole}
use Rattle.ttx_subpages.specs.Lacks.{IsFirstLack}
use Rattle.ttx_subpages.specs.Stays.{StaysFor, ComesAgainWithin, ShowsFor}
use Rattle.ttx_subpages.specs.declared.lack.Lack.{Lack}
use Rattle.ttx_subpages.specs.declared.verdict.NumbersVerdict.{NumbersVerdict}
use Rattle.ttx_subpages.specs.declared.verdict.NumbersVerdict.TheVariants.{Yes, No, Lacking}

abbrev pub IsYes : LateVerdict → Type 0
IsYes (late.Yes gap) = Unit {0}
IsYes (late.No reason) = ⊥
IsYes (late.NeverShown page slot) = ⊥

-- yes if nothing is missing
abbrev pub verdict_with : ℕ → Option Lack → NumbersVerdict
verdict_with gap None = Yes gap
verdict_with gap (Some lack) = Lacking lack

abbrev pub IsNumbersVerdict : List (List ℕ) → List Page → Certificate → NumbersVerdict → Type 0
IsNumbersVerdict cycle pages w (Yes gap) = IsLateVerdict cycle pages w (late.Yes gap) × AllSendWhole (repeated cycle) pages w.lines
IsNumbersVerdict cycle pages w (No verdict) = IsLateVerdict cycle pages w verdict × (IsYes verdict → ⊥)
IsNumbersVerdict cycle pages w (Lacking lack) = (gap : ℕ) × IsLateVerdict cycle pages w (late.Yes gap) × IsFirstLack cycle pages w.lines lack

-- Seen in turn within the deadline and the gap, and within its own interval and the gap, and for as many slots as the blocks of the number stay;
-- and on every permitted receiver, one that shows each row as it comes too, for a while.
pub record IsSeenByNumber (cycle : List (List ℕ)) (pages : List Page) (w : Certificate) (gap mag number : ℕ) (p : Page) : Type 0 where
  pub turn : SeenInTurn (repeated cycle) pages w.class w.lines (limit w + gap) mag number p
  pub again : (n : ℕ) → ComesAgainWithin (repeated cycle) (Exact p.id) n → SeenInTurn (repeated cycle) pages w.class w.lines (n + gap) mag number p
  pub stays : (n : ℕ) → StaysFor (repeated cycle) (AnySub mag number) n → ShowsFor (repeated cycle) pages w.class w.lines mag number p n
  pub held : SeenForAWhile (repeated cycle) pages w.class w.lines mag number p

abbrev pub MeansNumbers : List (List ℕ) → List Page → Certificate → NumbersVerdict → Type 0
MeansNumbers cycle pages w (Yes gap) = (mag number : ℕ) → HasSeveral pages mag number → (p : Page) → IsSubpage pages mag number p →
    IsSeenByNumber cycle pages w gap mag number p
MeansNumbers cycle pages w (No verdict) = Unit {0}
MeansNumbers cycle pages w (Lacking lack) = Unit {0}
