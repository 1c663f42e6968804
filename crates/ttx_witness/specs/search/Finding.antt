-- The certificate that names every start of a sure run, and the least deadline with which a cycle is accepted (profile).
--
--   is_due                  the items for which starts are named: those that a viewer sees and a receiver of the class does not hold already
--   starts_of, spread_at    the starts of the sure runs of an item, and how far apart these runs are
--   IsEnough, least_limit   a limit in slots is enough; the least one within which sure runs follow one another, None if there is no sure run
--   starts_for, limit_for   the starts named for an item that a viewer sees, and its least limit: that of the page's headers if it is not due
--   IsDone, same_place, AreNamed    the items that have been handled; the entries and the limit after them
--   CanBeAccepted           some certificate with these numbers and this deadline is accepted
--   IsFoundFor              the certificate that is found, and the least deadline
use Rattle.std.specs.Prelude.{◌≡◌, ◌⊎◌, ◌↔◌, ℕ, ◌-◌, ◌*◌, ◌<◌, ◌≤◌, max, Bool, true, false, not, ◌&&◌, ◌==◌, if◌then◌else◌, List, [], ◌∷◌}
use Rattle.std.specs.Prelude.{◌++◌, length, slice_get, slice_index_or, Contains, Option, Some, None}
use Rattle.std.specs.List.{All, AllPairs}
use Rattle.ttx_header.specs.Ids.{Id}
use Rattle.ttx_page.specs.Pages.{Page, needed, is_blank}
use Rattle.ttx_page.specs.declared.item.Item.{Item}
use Rattle.ttx_page.specs.declared.item.Item.TheVariants.{Head as TheHead}
use Rattle.ttx_page.specs.declared.class.Class.{Class}
use Rattle.ttx_page.specs.declared.class.Class.TheVariants.{Any, Clearing}
use Rattle.ttx_packet.specs.Slots.{is_clean}
use Rattle.ttx_page.specs.Streams.{run_length, repeated}
use Rattle.ttx_page.specs.Steady.{Steady}
use Rattle.ttx_witness.specs.runs.SureStarts.{Spread, width}
use Rattle.ttx_witness.specs.Coverage.{Certificate, IsCertificate, IsSureStart, Accepts}
use Rattle.ttx_witness.specs.laws.CycleLaws.{found_starts, found_spread}
use Rattle.ttx_witness.specs.sent.Collected.{IsItem, place_of_item}
use Rattle.ttx_certificate.specs.Entries.{place_of}
use Rattle.ttx_certificate.specs.declared.entries.Entry.{Entry}

abbrev pub is_due : Class → Page → Item → Bool
is_due Any p item = needed p item
is_due Clearing p item = needed p item && not (is_blank p item)

abbrev pub starts_of : List (List ℕ) → ℕ → ℕ → Id → Item → List ℕ
starts_of cycle lines repeat page item = found_starts cycle page lines item (run_length repeat item - 1)

abbrev pub spread_at : List (List ℕ) → ℕ → ℕ → Id → Item → Option Spread
spread_at cycle lines repeat page item = found_spread cycle page lines item (run_length repeat item - 1)

abbrev pub IsEnough : Option ℕ → ℕ → Type 0
IsEnough None limit = ⊥
IsEnough (Some least) limit = least ≤ limit

abbrev pub limit_of : ℕ → Option Spread → Option ℕ
limit_of n None = None
limit_of n (Some s) = Some (width n s)

abbrev pub least_limit : List (List ℕ) → ℕ → ℕ → Id → Item → Option ℕ
least_limit cycle lines repeat page item = limit_of (length cycle) (spread_at cycle lines repeat page item)

abbrev pub starts_for : List (List ℕ) → Class → ℕ → ℕ → Page → Item → List ℕ
starts_for cycle class lines repeat p item = if is_due class p item then starts_of cycle lines repeat p.id item else []

-- an item that is not due needs only the next header of its page
abbrev pub limit_for : List (List ℕ) → Class → ℕ → ℕ → Page → Item → Option ℕ
limit_for cycle class lines repeat p item =
    if is_due class p item then least_limit cycle lines repeat p.id item else least_limit cycle lines 1 p.id TheHead

-- the least limit that is enough for both
abbrev pub wider : Option ℕ → Option ℕ → Option ℕ
wider None b = None
wider (Some a) None = None
wider (Some a) (Some b) = Some (max a b)

-- an item that a viewer sees, and whose place is among the first m
pub record IsDone (pages : List Page) (m i : ℕ) (p : Page) (item : Item) : Type 0 where
  pub at : slice_get pages i ≡ Some p
  pub is : IsItem item
  pub seen : needed p item ≡ true
  pub before : place_of_item i item < m

-- the entry names the starts of an item that has been handled
pub record NamesStarts (cycle : List (List ℕ)) (pages : List Page) (class : Class) (lines repeat m : ℕ) (e : Entry) : Type 0 where
  pub index : ℕ
  pub p : Page
  pub done : IsDone pages m index p e.item
  pub page : e.page ≡ p.id
  pub starts : e.starts.items ≡ starts_for cycle class lines repeat p e.item

-- one of the entries belongs to the item
pub record HasEntry (entries : List Entry) (page : Id) (item : Item) : Type 0 where
  pub entry : Entry
  pub among : Contains entries entry
  pub of_page : entry.page ≡ page
  pub of_item : entry.item ≡ item

-- whether two entries belong to the same item of the same page
abbrev pub same_place : Entry → Entry → Bool
same_place a b = place_of a.page a.item == place_of b.page b.item

-- the entries and the least limit after the first m items
pub record AreNamed (cycle : List (List ℕ)) (pages : List Page) (class : Class) (lines repeat m : ℕ)
    (entries : List Entry) (least : Option ℕ) : Type 0 where
  pub told : All (NamesStarts cycle pages class lines repeat m) entries
  pub apart : AllPairs (λ a b. same_place a b ≡ false) entries
  pub kept : (i : ℕ) (p : Page) (item : Item) → IsDone pages m i p item →
      (starts_for cycle class lines repeat p item ≡ []) ⊎ HasEntry entries p.id item
  pub least_to : (limit : ℕ) → IsEnough least limit → (i : ℕ) (p : Page) (item : Item) → IsDone pages m i p item →
      IsEnough (limit_for cycle class lines repeat p item) limit
  pub least_from : (limit : ℕ) →
      ((i : ℕ) (p : Page) (item : Item) → IsDone pages m i p item → IsEnough (limit_for cycle class lines repeat p item) limit) → IsEnough least limit

-- there is no start and nothing is appended, or an entry that names the starts is
abbrev pub AddsEntry : List Entry → List Entry → Id → Item → List ℕ → Type 0
AddsEntry old new page item starts =
    ((starts ≡ []) × (new ≡ old)) ⊎ ((e : Entry) × (new ≡ old ++ e ∷ []) × (e.page ≡ page) × (e.item ≡ item) × (e.starts.items ≡ starts))

-- no slot is bad, and each page is steady
pub record IsSentUnchanged (cycle : List (List ℕ)) (pages : List Page) : Type 0 where
  pub clean : (n : ℕ) → n < length cycle → is_clean (slice_index_or cycle n []) ≡ true
  pub steady : (n : ℕ) (p : Page) → slice_get pages n ≡ Some p → Steady (repeated cycle) pages p

-- the least number of fields, from 1 to 1,000,000, in which that many slots are sent; None if it is larger
abbrev pub IsLeastField : ℕ → ℕ → Option ℕ → Type 0
IsLeastField slots lines None = (d : ℕ) → 1 ≤ d → d ≤ 1000000 → slots ≤ d * lines → ⊥
IsLeastField slots lines (Some d) = (1 ≤ d) × (d ≤ 1000000) × (slots ≤ d * lines) × ((e : ℕ) → 1 ≤ e → slots ≤ e * lines → d ≤ e)

-- the least number of fields that is enough, if all is sent unchanged
abbrev pub IsDeadline : List (List ℕ) → List Page → ℕ → Option ℕ → Option ℕ → Type 0
IsDeadline cycle pages lines least None = (d : ℕ) → 1 ≤ d → d ≤ 1000000 → IsSentUnchanged cycle pages → IsEnough least (d * lines) → ⊥
IsDeadline cycle pages lines least (Some d) =
    IsSentUnchanged cycle pages × (1 ≤ d) × (d ≤ 1000000) × IsEnough least (d * lines) × ((e : ℕ) → 1 ≤ e → IsEnough least (e * lines) → d ≤ e)

-- some certificate with this class, lines, repeat count and deadline is accepted
pub record CanBeAccepted (cycle : List (List ℕ)) (pages : List Page) (class : Class) (lines repeat deadline : ℕ) : Type 0 where
  pub w : Certificate
  pub is : IsCertificate w
  pub same_class : w.class ≡ class
  pub same_lines : w.lines ≡ lines
  pub same_repeat : w.repeat ≡ repeat
  pub same_deadline : w.deadline ≡ deadline
  pub accepted : Accepts cycle pages w

-- Some: the certificate has this deadline and is accepted, and none with a smaller deadline is. None: none is, and it has the largest.
abbrev pub IsLeastDeadline : List (List ℕ) → List Page → Certificate → Option ℕ → Type 0
IsLeastDeadline cycle pages w None = (w.deadline ≡ 1000000) × ((d : ℕ) → CanBeAccepted cycle pages w.class w.lines w.repeat d → ⊥)
IsLeastDeadline cycle pages w (Some d) =
    (w.deadline ≡ d) × Accepts cycle pages w × ((e : ℕ) → CanBeAccepted cycle pages w.class w.lines w.repeat e → d ≤ e)

pub record IsFoundFor (cycle : List (List ℕ)) (pages : List Page) (repeat lines : ℕ) (class : Class)
    (w : Certificate) (deadline : Option ℕ) : Type 0 where
  pub same_lines : w.lines ≡ lines
  pub same_repeat : w.repeat ≡ repeat
  pub same_class : w.class ≡ class
  pub named : (n : ℕ) (p : Page) → slice_get pages n ≡ Some p → (item : Item) → IsItem item →
      (start : ℕ) → Contains (w.starts p.id item) start ↔ ((is_due class p item ≡ true) × IsSureStart cycle p.id lines repeat item start)
  pub no_others : (id : Id) → ((n : ℕ) (p : Page) → slice_get pages n ≡ Some p → p.id ≡ id → ⊥) → (item : Item) → w.starts id item ≡ []
  pub least : IsLeastDeadline cycle pages w deadline
