-- Certificates as plain records, with the ranges and orders of their numbers (profile).
--
--   EntryFields, CertificateFields      the starts that are named for an item of a page; a certificate with its entries
--   rises                   each number of a list is above the one before it
--   is_item, is_page_id, are_slots, are_starts      the rows, ids and starts that an entry takes
--   IsEntry                 the rules of an entry
--   place_of                the place of an item of a page in the order of entries
--   are_numbers, IsCertificateFields        the ranges of a certificate's numbers; all its rules
--   starts_in, certificate_at               the starts that entries name for an item; a certificate by its starts
use Rattle.std.specs.Prelude.{◌≡◌, ℕ, ◌+◌, ◌*◌, Bool, true, not, ◌&&◌, ◌==◌, nat_lt, nat_le, List, [], ◌∷◌, map, Option, Some, None, if◌then◌else◌}
use Rattle.std.specs.List.{list_all, AllByRecursion}
use Rattle.ttx_header.specs.Ids.{Id, IsId, same_id}
use Rattle.ttx_page.specs.declared.item.Item.{Item}
use Rattle.ttx_page.specs.declared.item.Item.TheVariants.{Head as TheHead, Row as TheRow, Links as TheLinks}
use Rattle.ttx_page.specs.declared.class.Class.{Class}
use Rattle.ttx_certificate.specs.ItemPlaces.{item_number, key_of}
use Rattle.ttx_certificate.specs.NamedStarts.{Certificate}

-- the starts that are named for an item of a page
pub record EntryFields : Type 0 where
  pub page : Id
  pub item : Item
  pub starts : List ℕ

abbrev pub entry_at : Id → Item → List ℕ → EntryFields
entry_at page item starts = record { page = page; item = item; starts = starts }

-- lines of a field, the repeat count, the deadline in fields, entries, the class of receivers
pub record CertificateFields : Type 0 where
  pub lines : ℕ
  pub repeat : ℕ
  pub deadline : ℕ
  pub entries : List EntryFields
  pub class : Class

abbrev pub certificate_fields_at : ℕ → ℕ → ℕ → List EntryFields → Class → CertificateFields
certificate_fields_at lines repeat deadline entries class =
    record { lines = lines; repeat = repeat; deadline = deadline; entries = entries; class = class }

abbrev pub is_above : Option ℕ → ℕ → Bool
is_above None n = true
is_above (Some low) n = nat_lt low n

abbrev pub rises_above : Option ℕ → List ℕ → Bool
rises_above low [] = true
rises_above low (n ∷ ns) = is_above low n && rises_above (Some n) ns

-- each number is above the one before it
abbrev pub rises : List ℕ → Bool
rises ns = rises_above None ns

abbrev pub are_none : List ℕ → Bool
are_none [] = true
are_none (n ∷ ns) = Bool.false

-- a row is 1 to 24
abbrev pub is_item : Item → Bool
is_item TheHead = true
is_item (TheRow n) = nat_le 1 n && nat_le n 24
is_item TheLinks = true

-- no page FF, no subcode 3F7F
abbrev pub is_page_id : Id → Bool
is_page_id id = not (id.page == 0xff) && not (id.sub == 0x3f7f)

-- each number is below 65,536
abbrev pub are_slots : List ℕ → Bool
are_slots numbers = list_all (λ number. nat_lt number 65536) numbers

-- at least one start, each below 65,536, rising
abbrev pub are_starts : List ℕ → Bool
are_starts starts = not (are_none starts) && are_slots starts && rises starts

pub record IsEntry (e : EntryFields) : Type 0 where
  pub id : IsId e.page
  pub page : is_page_id e.page ≡ true
  pub item : is_item e.item ≡ true
  pub starts : are_starts e.starts ≡ true

-- The place of an item of a page in the order of entries: by magazine, page number, subcode, and then item: the characters of
-- row 0, rows rising, links. As one number: a page has 26 items.
abbrev pub place_of : Id → Item → ℕ
place_of page item = key_of page * 26 + item_number item

abbrev pub entry_places : List EntryFields → List ℕ
entry_places entries = map (λ e. place_of e.page e.item) entries

-- lines 1 to 32, repeat 1 to 8, deadline 1 to 1,000,000
abbrev pub are_numbers : ℕ → ℕ → ℕ → Bool
are_numbers lines repeat deadline =
    nat_le 1 lines && nat_le lines 32 && nat_le 1 repeat && nat_le repeat 8 && nat_le 1 deadline && nat_le deadline 1000000

-- all rules of a certificate
pub record IsCertificateFields (w : CertificateFields) : Type 0 where
  pub numbers : are_numbers w.lines w.repeat w.deadline ≡ true
  pub entries : AllByRecursion IsEntry w.entries
  pub rising : rises (entry_places w.entries) ≡ true

-- whether two items are the same
abbrev pub same_item : Item → Item → Bool
same_item a b = item_number a == item_number b

-- the starts of the entry for an item of a page; none if there is no such entry
abbrev pub starts_in : List EntryFields → Id → Item → List ℕ
starts_in [] page item = []
starts_in (e ∷ es) page item = if same_id e.page page && same_item e.item item then e.starts else starts_in es page item

-- the certificate, by the starts of items of pages
abbrev pub certificate_at : CertificateFields → Certificate
certificate_at w = record { lines = w.lines; repeat = w.repeat; deadline = w.deadline; class = w.class; starts = starts_in w.entries }
