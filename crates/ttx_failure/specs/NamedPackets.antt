-- The packets that are named in sentences.
use Rattle.std.specs.Prelude.{ℕ, List, ◌++◌, codes}
use Rattle.std.specs.Fmt.{decimal}
use Rattle.ttx_failure.specs.declared.packets.NamedPacket.{NamedPacket}
use Rattle.ttx_failure.specs.declared.packets.NamedPacket.TheVariants.{Header, Row, Links, Another}
use Rattle.ttx_packet.specs.Slots.{Kind, IsHeader, IsRow, IsLinks}

abbrev pub named : Kind → NamedPacket
named (IsHeader mag) = Header mag
named (IsRow mag number) = Row mag number
named (IsLinks mag) = Links mag
named kind = Another

unfoldable pub header_name : ℕ → List ℕ
header_name mag = codes "header of magazine " ++ decimal mag

unfoldable pub row_number : ℕ → List ℕ
row_number number = codes "row " ++ decimal number

unfoldable pub of_magazine : ℕ → List ℕ
of_magazine mag = codes " of magazine " ++ decimal mag

unfoldable pub row_name : ℕ → ℕ → List ℕ
row_name number mag = row_number number ++ of_magazine mag

unfoldable pub links_name : ℕ → List ℕ
links_name mag = codes "links of magazine " ++ decimal mag
