-- The index of the magazine of a packet, counted from 0.
use Rattle.std.specs.Prelude.{ℕ, ◌-◌, List, [], ◌∷◌, Option, Some, None, slice_index}
use Rattle.ttx_packet.specs.Slots.{Kind, IsHeader, IsRow, IsLinks}
use Rattle.ttx_pages.specs.declared.keys.Part.{Part}
use Rattle.ttx_pages.specs.declared.keys.Part.TheVariants.{Head, Row, Links}

abbrev pub magazine_place_in : Part → Kind → Option ℕ
magazine_place_in Head (IsHeader mag) = Some (mag - 1)
magazine_place_in Row (IsRow mag number) = Some (mag - 1)
magazine_place_in Links (IsLinks mag) = Some (mag - 1)
magazine_place_in part kind = None

-- for a packet of any part
abbrev pub magazine_place : Kind → Option ℕ
magazine_place (IsHeader mag) = Some (mag - 1)
magazine_place (IsRow mag number) = Some (mag - 1)
magazine_place (IsLinks mag) = Some (mag - 1)
magazine_place kind = None

abbrev pub open_key : List ℕ → Option ℕ → List ℕ
open_key current None = []
open_key current (Some place) = slice_index current place ∷ []
