use Rattle.std.proofs.Common.{sym, ap, ◌∙◌}
use Rattle.ttx_links.specs.Sets.{links_of}
use Rattle.ttx_packet.specs.Slots.{IsEmpty, IsUnreadable, IsHeader, IsRow, IsLinks, IsInfo, IsOther}
use Rattle.ttx_page.specs.Packets.{Links}
use Rattle.ttx_extract.proofs.Packets.{packet_is, no_links_in}
use Rattle.ttx_extract.proofs.conflicts.content_in.Goals as goal

pub returns-in-Links : goal.returns-in-Links
returns-in-Links c =
    let slot = c.args.slot.now in
    let l = c.in-Links in (
      l.at.mag,
      packet_is slot (IsLinks l.at.mag) l.ensures.0
          ∙ ap (Links l.at.mag) (ap (links_of l.at.mag) (sym l.ensures.2) ∙ sym c.read_links.ensures.set),
    )

pub returns-in-Empty : goal.returns-in-Empty
returns-in-Empty c = no_links_in c.args.slot.now IsEmpty c.in-Empty.ensures tt

pub returns-in-Unreadable : goal.returns-in-Unreadable
returns-in-Unreadable c = no_links_in c.args.slot.now IsUnreadable c.in-Unreadable.ensures tt

pub returns-in-Header : goal.returns-in-Header
returns-in-Header c = no_links_in c.args.slot.now (IsHeader c.in-Header.field-0.mag) c.in-Header.ensures.0 tt

pub returns-in-Row : goal.returns-in-Row
returns-in-Row c = no_links_in c.args.slot.now (IsRow c.in-Row.field-0.mag c.in-Row.field-0.number) c.in-Row.ensures.0 tt

pub returns-in-Info : goal.returns-in-Info
returns-in-Info c = no_links_in c.args.slot.now IsInfo c.in-Info.ensures.0 tt

pub returns-in-Other : goal.returns-in-Other
returns-in-Other c = no_links_in c.args.slot.now (IsOther c.in-Other.field-0.mag c.in-Other.field-0.number) c.in-Other.ensures tt
