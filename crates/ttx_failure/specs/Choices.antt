-- The choices that the receiver takes.
--
--   behind_text             how far a packet is behind the header of its page
--   choice_words            what the receiver does at a packet of this kind
--   choice_items            the items of choices
use Rattle.std.specs.Prelude.{ℕ, ◌==◌, if◌then◌else◌, List, [], ◌∷◌, ◌++◌, codes, slice_index_or}
use Rattle.std.specs.Fmt.{decimal}
use Rattle.ttx_counter.specs.declared.taken_choices.Taken.{Taken}
use Rattle.ttx_failure.specs.Forms.{item_start, item_end}
use Rattle.ttx_failure.specs.Places.{slot_of_run, moment_text}
use Rattle.ttx_failure.specs.declared.forms.FailureForm.{FailureForm}
use Rattle.ttx_failure.specs.declared.packets.NamedPacket.{NamedPacket}
use Rattle.ttx_failure.specs.declared.packets.NamedPacket.TheVariants.{Header, Row, Links, Another}
use Rattle.ttx_failure.specs.NamedPackets.{named, header_name, row_name, links_name}
use Rattle.ttx_packet.specs.Slots.{kind_of}

unfoldable pub behind_text : ℕ → List ℕ
behind_text age = codes ", missed; slots behind its header: " ++ decimal age

-- A header of the page's magazine can only be one of the page, at which the receiver may clear what it holds.
unfoldable pub header_words : ℕ → ℕ → List ℕ
header_words own mag = if mag == own then codes ", cleared what it held" else codes ", taken for the end of the page"

unfoldable pub choice_words : ℕ → NamedPacket → ℕ → List ℕ
choice_words own (Header mag) age = header_name mag ++ header_words own mag
choice_words own (Row mag number) age = row_name number mag ++ behind_text age
choice_words own (Links mag) age = links_name mag ++ behind_text age
choice_words own Another age = codes "another packet"

unfoldable pub choice_text : ℕ → List (List ℕ) → ℕ → ℕ → ℕ → Taken → List ℕ
choice_text own slots period lines start taken =
    moment_text period lines start taken.index ++ codes ": "
    ++ choice_words own (named (kind_of (slice_index_or slots (slot_of_run period start taken.index) []))) taken.age

unfoldable pub choice_item : FailureForm → ℕ → List (List ℕ) → ℕ → ℕ → ℕ → Taken → List ℕ
choice_item form own slots period lines start taken = item_start form ++ choice_text own slots period lines start taken ++ item_end form

abbrev pub choice_items : FailureForm → ℕ → List (List ℕ) → ℕ → ℕ → ℕ → List Taken → List ℕ
choice_items form own slots period lines start [] = []
choice_items form own slots period lines start (taken ∷ rest) =
    choice_item form own slots period lines start taken ++ choice_items form own slots period lines start rest
