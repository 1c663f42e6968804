-- Laws of how an item of a page is judged from the list of its transmissions in a period.
--
--   TransmissionsAreListed  the list of a period's transmissions has each of them, in order, with small numbers
--   FirstPeriodIsListed     the list of the transmissions in the first period of a cycle after another one
--   IsFirstOf               the first number for which a property holds
--   IsLateAnswer            the first late start, or None if the item is covered
--   ItemsAreJudged          what one pass over the list finds about the named starts: the first bad one, or otherwise the first late one
--   late_header             the first header that the next one follows too late
--   IsHeaderAnswer, HeadersAreJudged        what this says about blank items without named starts
use Rattle.std.specs.Prelude.{◌≡◌, ℕ, suc, ◌<◌, ◌≤◌, ℤ, pos, ◌+ℤ◌, ◌<ℤ◌, ◌≤ℤ◌, true, if◌then◌else◌, int_lt, unsigned_abs, List, [], ◌∷◌}
use Rattle.std.specs.Prelude.{length, slice_index_or, Option, Some, None, ◌≢◌, ◌^◌}
use Rattle.std.specs.List.{AllByRecursion, AllPairs}
use Rattle.ttx_page.specs.declared.page.Page.{Page as PageValue}
use Rattle.ttx_page.specs.Views.{ids_of}
use Rattle.ttx_header.specs.Ids.{Id}
use Rattle.ttx_page.specs.Packets.{packet_of}
use Rattle.ttx_page.specs.Pages.{Page, IsBlank, needed}
use Rattle.ttx_page.specs.declared.item.Item.{Item}
use Rattle.ttx_page.specs.declared.item.Item.TheVariants.{Head as TheHead}
use Rattle.ttx_page.specs.declared.class.Class.TheVariants.{Clearing}
use Rattle.ttx_page.specs.Streams.{repeated, joined, run_length, heads_page, IsOwned, IsSure}
use Rattle.ttx_page.specs.Steady.{HasHeader}
use Rattle.ttx_witness.specs.runs.Transmissions.{Transmission}
use Rattle.ttx_witness.specs.runs.Confirming.{Rising, late_after}
use Rattle.ttx_witness.specs.runs.Repeating.{AreSent}
use Rattle.ttx_witness.specs.runs.Tracks.{IsWithin}
use Rattle.ttx_witness.specs.sent.ItemTransmissions.{sent_in, sent_after}
use Rattle.ttx_witness.specs.Coverage.{Certificate, limit, IsCovered}
use Rattle.ttx_witness.specs.laws.CycleLaws.{progress_of}
use Rattle.ttx_witness.specs.faults.Reasons.{WitnessBadAt, LateAt, LateBlankAt}

abbrev pub TransmissionsAreListed : Type 0
TransmissionsAreListed = (cycle : List (List ℕ)) → 1 ≤ length cycle → length cycle ≤ 65536 → (page : Id) (lines : ℕ) (item : Item) →
    AreSent (IsOwned (repeated cycle) page item) (IsSure (repeated cycle) lines page.mag item) (pos 0) (pos (length cycle))
    (sent_in cycle page lines item)
    × AllByRecursion (IsWithin 65536) (sent_in cycle page lines item)

abbrev pub FirstPeriodIsListed : Type 0
FirstPeriodIsListed = (before cycle : List (List ℕ)) → 1 ≤ length before → (page : Id) (lines : ℕ) (item : Item) →
    AreSent (IsOwned (joined before cycle) page item) (IsSure (joined before cycle) lines page.mag item) (pos 0) (pos (length cycle))
    (sent_after before cycle page lines item)

-- P holds for n, and for no smaller number
abbrev pub IsFirstOf : (ℕ → Type 0) → ℕ → Type 0
IsFirstOf P n = P n × ((m : ℕ) → m < n → P m → ⊥)

abbrev pub IsLateAnswer : List (List ℕ) → Page → Certificate → Item → Option ℕ → Type 0
IsLateAnswer cycle p w item None = IsCovered cycle p w item × ((start : ℕ) → LateAt cycle p w item start → ⊥)
IsLateAnswer cycle p w item (Some start) = IsFirstOf (LateAt cycle p w item) start

abbrev pub ItemsAreJudged : Type 0
ItemsAreJudged = (cycle : List (List ℕ)) → 1 ≤ length cycle → (p : Page) (w : Certificate) (item : Item) (k : ℕ) → run_length w.repeat item ≡ suc k →
    Rising (w.starts p.id item) → needed p item ≡ true → let starts = w.starts p.id item in let m = progress_of cycle p w item k in
    (m.next ≤ length starts)
    × (m.next < length starts → IsFirstOf (WitnessBadAt cycle p w item) (slice_index_or starts m.next 0))
    × (m.next ≡ length starts → (start : ℕ) → WitnessBadAt cycle p w item start → ⊥)
    × (m.next ≡ length starts → 0 < length starts → IsLateAnswer cycle p w item (late_after (limit w) starts m (m.first_end +ℤ pos (length cycle))))

-- the first header that is followed by the next one more than `limit` slots later; the header after the last one is in slot `end`
abbrev pub late_before : ℕ → ℤ → List Transmission → Option ℕ
late_before limit end [] = None
late_before limit end (t ∷ []) = if int_lt (t.slot +ℤ pos limit) end then Some (unsigned_abs t.slot) else None
late_before limit end (t ∷ next ∷ ts) =
    if int_lt (t.slot +ℤ pos limit) next.slot then Some (unsigned_abs t.slot) else late_before limit end (next ∷ ts)

-- the first of a list, one period later
abbrev pub first_again : ℕ → List Transmission → ℤ
first_again n [] = pos n
first_again n (t ∷ ts) = t.slot +ℤ pos n

unfoldable pub late_header : ℕ → ℕ → List Transmission → Option ℕ
late_header limit n ts = late_before limit (first_again n ts) ts

abbrev pub IsHeaderAnswer : List (List ℕ) → Page → Certificate → Option ℕ → Type 0
IsHeaderAnswer cycle p w None =
    ((tau : ℤ) → (i : ℤ) × (tau ≤ℤ i) × (i <ℤ (tau +ℤ pos (limit w))) × (heads_page p.id (packet_of (repeated cycle i)) ≡ true))
    × ((item : Item) (header : ℕ) → LateBlankAt cycle p w item header → ⊥)
IsHeaderAnswer cycle p w (Some header) =
    (item : Item) → needed p item ≡ true → w.class ≡ Clearing → IsBlank p item → w.starts p.id item ≡ [] →
    IsFirstOf (LateBlankAt cycle p w item) header

abbrev pub HeadersAreJudged : Type 0
HeadersAreJudged = (cycle : List (List ℕ)) → 1 ≤ length cycle → (p : Page) (w : Certificate) → HasHeader (repeated cycle) p.id →
    IsHeaderAnswer cycle p w (late_header (limit w) (length cycle) (sent_in cycle p.id w.lines TheHead))

-- fewer than 2^32 pages can have distinct ids
abbrev pub PagesAreFew : Type 0
PagesAreFew = (pages : List PageValue) → AllPairs (λ a b. a ≢ b) (ids_of pages) → length pages < 2 ^ 32
