-- The page header in a slot, with the index of its page among the ids of pages.
use Rattle.std.specs.Prelude.{◌≡◌, ℕ, List, Option, Some, None}
use Rattle.ttx_packet.specs.Slots.{Kind, IsHeader, kind_of}
use Rattle.ttx_header.specs.Control.{c11}
use Rattle.ttx_header.specs.Headers.{id_of, control_of}
use Rattle.ttx_header.specs.Ids.{Id, IsId}
use Rattle.ttx_witness.specs.sent.Collected.{Finds}
use Rattle.ttx_witness.specs.declared.sent.indexed_headers.IndexedHeader.{IndexedHeader}

-- a slot of this kind has no page header
abbrev pub IsNoHeader : Kind → Type 0
IsNoHeader (IsHeader mag) = ⊥
IsNoHeader _ = Unit {0}

-- the slot has this page header, and the index is that of its page
pub record IsIndexed (ids : List Id) (slot : List ℕ) (h : IndexedHeader) : Type 0 where
  pub kind : kind_of slot ≡ IsHeader (id_of slot).mag
  pub is : IsId (id_of slot)
  pub id : h.id ≡ id_of slot
  pub serial : h.is_serial ≡ c11 (control_of slot)
  pub finds : Finds ids h.id h.page

abbrev pub IsHeaderOf : List Id → List ℕ → Option IndexedHeader → Type 0
IsHeaderOf ids slot None = IsNoHeader (kind_of slot)
IsHeaderOf ids slot (Some h) = IsIndexed ids slot h
