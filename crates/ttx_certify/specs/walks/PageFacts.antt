-- The headers and the first slots of a page, noted slot by slot. Slots are counted from 0.
--
--   heads_after, heads_of   the first and last header and the first one that the next follows too late: after one more slot; after a list
--   Noted                   the facts of a page after one more slot; `sends` says which items the slot sends
--   FirstBelow              the first slot below n where a property holds
--   AreFacts                the facts of a page after n slots
--   late_in, late_of        the first header that the next one follows too late; after the last header comes the first again
use Rattle.std.specs.Prelude.{◌≡◌, ℕ, ◌<◌, ℤ, pos, ◌+ℤ◌, int_lt, unsigned_abs, Bool, true, ◌&&◌, if◌then◌else◌, List, [], ◌∷◌}
use Rattle.std.specs.Prelude.{Option, Some, None, is_none}
use Rattle.ttx_page.specs.Pages.{Page}
use Rattle.ttx_page.specs.Streams.{Stream}
use Rattle.ttx_page.specs.declared.item.Item.{Item}
use Rattle.ttx_page.specs.declared.item.Item.TheVariants.{Head as TheHead}
use Rattle.ttx_witness.specs.Coverage.{Certificate, limit}
use Rattle.ttx_witness.specs.faults.FirstSlots.{IsAfter, AreFirstTaken, SentBelow}
use Rattle.ttx_witness.specs.sent.ItemTransmissions.{PageOwner, sent_scan}
use Rattle.ttx_witness.specs.declared.runs.transmissions.Transmission.{Transmission}
use Rattle.ttx_certify.specs.declared.walks.page_facts.Heads.{Heads}
use Rattle.ttx_certify.specs.declared.walks.page_facts.Facts.{Facts}

-- the headers after one more in slot j
abbrev pub next_head : ℕ → ℤ → Option Heads → Heads
next_head limit j None = record { first = j; last = j; late = None }
next_head limit j (Some h) = record {
  first = h.first;
  last = j;
  late = if is_none h.late && int_lt (h.last +ℤ pos limit) j then Some (unsigned_abs h.last) else h.late;
}

abbrev pub heads_after : ℕ → ℤ → Bool → Option Heads → Option Heads
heads_after limit j sent heads = if sent then Some (next_head limit j heads) else heads

pub record Noted (limit : ℕ) (p : Page) (sends : Item → Bool) (slot : List ℕ) (j : ℕ) (old new : Facts) : Type 0 where
  pub heads : new.heads ≡ heads_after limit (pos j) (sends TheHead) old.heads
  pub first : IsAfter p sends slot j old.first new.first

abbrev pub FirstBelow : (ℕ → Type 0) → ℕ → Option ℕ → Type 0
FirstBelow P n None = (i : ℕ) → i < n → P i → ⊥
FirstBelow P n (Some j) = (j < n) × P j × ((i : ℕ) → i < j → P i → ⊥)

-- the headers after a list of further ones
unfoldable pub heads_of : ℕ → Option Heads → List Transmission → Option Heads
heads_of limit heads [] = heads
heads_of limit heads (t ∷ ts) = heads_of limit (heads_after limit t.slot true heads) ts

pub record AreFacts (w : Certificate) (p : Page) (s : Stream) (entry : Option PageOwner) (n : ℕ) (f : Facts) : Type 0 where
  pub heads : f.heads ≡ heads_of (limit w) None (sent_scan p.id w.lines TheHead s entry n)
  pub first : AreFirstTaken p s (SentBelow p.id s entry n) f.first

abbrev pub late_in : ℕ → ℤ → Heads → Option ℕ → Option ℕ
late_in limit end h None = if int_lt (h.last +ℤ pos limit) end then Some (unsigned_abs h.last) else None
late_in limit end h (Some at) = Some at

abbrev pub late_of : ℕ → ℕ → Option Heads → Option ℕ
late_of limit n None = None
late_of limit n (Some h) = late_in limit (h.first +ℤ pos n) h h.late
