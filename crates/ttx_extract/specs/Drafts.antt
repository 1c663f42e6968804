-- What a cycle sends, as a service definition says it (profile). It need not be a service: there may be more pages than a service has.
--
--   authored_of, draft_of   the pages and the settings of a `Draft`, as the records of a service
--   said_control, said_head a page's control bits and its characters of row 0, where its first header is in this slot
--   said_rows               rows 1 to 24, each as it is sent first
--   said_page               a page, with what is sent first of each of its items, and as often as it has headers
--   sent_draft              the lines, C11 of the first header, the first packet 8/30, and the pages that headers name
use Rattle.std.specs.Prelude.{ℕ, ◌+◌, ◌*◌, ◌/◌, ◌%◌, List, map, take, replicate, length, Bool, Option, Some, None}
use Rattle.std.specs.List.{range_with_len}
use Rattle.ttx_header.specs.Ids.{Id}
use Rattle.ttx_page.specs.Packets.{Packet, Header, packet_of}
use Rattle.ttx_page.specs.Pages.{page_at}
use Rattle.ttx_page.specs.declared.item.Item.TheVariants.{Head as TheHead, Row as TheRow, Links as TheLinks}
use Rattle.ttx_source.specs.Keys.{bit_at}
use Rattle.ttx_source.specs.Services.{Authored, ServiceFields, authored_at, service_at}
use Rattle.ttx_witness.specs.sent.ItemTransmissions.{sent_in}
use Rattle.ttx_extract.specs.Often.{often_for}
use Rattle.ttx_extract.specs.FirstPackets.{first_info, first_serial}
use Rattle.ttx_extract.specs.FirstSent.{characters, row_of, first_sent, links_of_slot}
use Rattle.ttx_extract.specs.NamedPages.{named}
use Rattle.ttx_extract.specs.declared.draft.Draft.{Draft}
use Rattle.ttx_extract.specs.declared.sent_page.SentPage.{SentPage}

abbrev pub authored_of : SentPage → Authored
authored_of p = authored_at (page_at p.id p.control.0 p.head p.rows p.links.set p.links.crc) p.often

abbrev pub draft_of : Draft → ServiceFields
draft_of d = service_at d.lines d.serial d.info (map authored_of d.pages.items)

-- C5 to C10 and C12 to C14 of a header, C11 as the service has it, and C4 clear; nothing of another packet
abbrev pub control_in : Bool → Packet → ℕ
control_in serial (Header id control text) = 2 * (control / 2 % 64) + bit_at 128 serial + 256 * (control / 256)
control_in serial packet = 0

unfoldable pub said_control : Bool → Option (List ℕ) → ℕ
said_control serial None = 0
said_control serial (Some slot) = control_in serial (packet_of slot)

-- characters 8 to 31 of a header, and spaces of another packet
abbrev pub head_in : Packet → List ℕ
head_in (Header id control text) = characters (take 24 text)
head_in packet = replicate 24 32

unfoldable pub said_head : Option (List ℕ) → List ℕ
said_head None = replicate 24 32
said_head (Some slot) = head_in (packet_of slot)

unfoldable pub said_rows : List (List ℕ) → ℕ → Id → List (List ℕ)
said_rows slots lines id = map (λ r. row_of (first_sent slots lines id (TheRow r))) (range_with_len 1 24)

abbrev pub said_page : List (List ℕ) → ℕ → Bool → Id → Authored
said_page slots lines serial id =
    let head = first_sent slots lines id TheHead in
    let links = links_of_slot id.mag (first_sent slots lines id TheLinks) in
    authored_at (page_at id (said_control serial head) (said_head head) (said_rows slots lines id) links.set links.crc)
    (often_for (length (sent_in slots id lines TheHead)))

unfoldable pub sent_draft : List (List ℕ) → ℕ → ServiceFields
sent_draft slots lines =
    service_at lines (first_serial slots) (first_info slots) (map (said_page slots lines (first_serial slots)) (named slots))
