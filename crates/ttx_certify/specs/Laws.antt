-- The laws of the headline. Each is proved by the function of its name in `laws`.
--
--   RunsAreSeen             in any stream: if each needed item comes between two slots, the page is seen from the second slot on
--   ArePages                the pages of a list are in their ranges
--   AcceptedIsSeen          each receiver sees the pages of an accepted cycle by the deadline and ever after
--   EachTuningRuns          from each tuning slot there is a reception, and each kind of receiver has a run over it
use Rattle.std.specs.Prelude.{◌≡◌, ℕ, ◌≤◌, ℤ, pos, ◌+ℤ◌, ◌≤ℤ◌, true, List, length, slice_get, Some}
use Rattle.ttx_header.specs.Ids.{Id}
use Rattle.ttx_page.specs.Pages.{Page, IsPage, matches, needed}
use Rattle.ttx_page.specs.declared.selection.Selection.{Selection}
use Rattle.ttx_page.specs.declared.item.Item.{Item}
use Rattle.ttx_page.specs.declared.class.Class.{Class}
use Rattle.ttx_page.specs.Memories.{Memory, IsFormer}
use Rattle.ttx_page.specs.Receivers.{Run}
use Rattle.ttx_page.specs.Streams.{Stream, repeated}
use Rattle.ttx_page.specs.Receptions.{Received}
use Rattle.ttx_receiver.specs.Laws.{IsSteadyFrom, IsBrought}
use Rattle.ttx_cycle.specs.Files.{IsCycle}
use Rattle.ttx_witness.specs.Coverage.{Certificate, IsCertificate, Accepts}
use Rattle.ttx_certify.specs.Seen.{HasView, Seen, SomeRun}

-- From slot begin on each slot is clean, the headers that the selection matches are the page's, and what is sent under them is the page's
-- own. Each needed item comes between begin and end: by a sure run under headers at begin or later, or, if it is blank and receivers
-- surely clear, by a header alone. Then, after any reception within the error rule from begin to end or longer, the receiver has the
-- page's View, whatever it held before and whatever it chooses.
abbrev pub RunsAreSeen : Type 0
RunsAreSeen =
    (s : Stream) (p : Page) (sel : Selection) (class : Class) (lines repeat : ℕ) (begin end : ℤ) →
    IsPage p → lines ≤ 32 → matches sel p.id ≡ true → IsSteadyFrom s p sel begin →
    ((item : Item) → needed p item ≡ true → IsBrought s p class lines repeat item begin end) →
    (former m : Memory) (received : List (List ℕ)) → IsFormer class former → Received s p.id repeat begin received →
    Run class lines sel former received m → end ≤ℤ (begin +ℤ pos (length received)) → HasView p m

abbrev pub ArePages : List Page → Type 0
ArePages pages = (n : ℕ) (p : Page) → slice_get pages n ≡ Some p → IsPage p

-- What is accepted is seen: the headline.
abbrev pub AcceptedIsSeen : Type 0
AcceptedIsSeen =
    (cycle : List (List ℕ)) (pages : List Page) (w : Certificate) → IsCycle cycle → ArePages pages → IsCertificate w →
    Accepts cycle pages w → (n : ℕ) (p : Page) → slice_get pages n ≡ Some p → Seen cycle pages p w

-- The headline is not empty: each tuning slot, former memory, selection and length has a reception and a run.
abbrev pub EachTuningRuns : Type 0
EachTuningRuns =
    (cycle : List (List ℕ)) → IsCycle cycle → (page : Id) (class : Class) (lines repeat : ℕ) → 1 ≤ repeat →
    (sel : Selection) (former : Memory) (tau : ℤ) (n : ℕ) → SomeRun (repeated cycle) page class lines repeat sel former tau n
