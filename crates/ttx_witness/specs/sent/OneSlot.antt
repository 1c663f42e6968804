-- What a slot sends. Each item of each page has a place.
--
--   sent_of, is_sent        the transmission of an item; whether there is one
--   sends_place             the slot sends the item at a place
--   told, placed_at         the transmission in the slot; that of the item at a place
use Rattle.std.specs.Prelude.{ℕ, ◌+◌, ◌*◌, Bool, false, ◌&&◌, ◌==◌, nat_lt, if◌then◌else◌, List, [], ◌∷◌, Option, Some, None}
use Rattle.ttx_page.specs.declared.item.Item.{Item}
use Rattle.ttx_witness.specs.sent.Collected.{item_number}
use Rattle.ttx_witness.specs.declared.runs.transmissions.Transmission.{Transmission}
use Rattle.ttx_witness.specs.declared.sent.one_slot.Sent.{Sent}

-- the transmission of an item of the i-th page, if the slot sends it
abbrev pub sent_of : ℕ → Item → Option Sent → List Transmission
sent_of i item None = []
sent_of i item (Some s) = if (item_number item == s.number) && (s.page == i) then s.transmission ∷ [] else []

-- whether the slot sends the item
abbrev pub is_sent : ℕ → Item → Option Sent → Bool
is_sent i item None = false
is_sent i item (Some s) = (item_number item == s.number) && (s.page == i)

abbrev pub sends_place : ℕ → Option Sent → Bool
sends_place place None = false
sends_place place (Some s) = nat_lt s.number 26 && (place == 26 * s.page + s.number)

abbrev pub told : Option Sent → List Transmission
told None = []
told (Some s) = s.transmission ∷ []

abbrev pub placed_at : ℕ → Option Sent → List Transmission
placed_at place sent = if sends_place place sent then told sent else []
