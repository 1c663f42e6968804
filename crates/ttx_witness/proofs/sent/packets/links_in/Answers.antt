use Rattle.ttx_packet.specs.Slots.{IsEmpty, IsUnreadable, IsHeader, IsRow, IsLinks, IsInfo, IsOther}
use Rattle.ttx_witness.specs.faults.Comparing.{HoldsNoLinks}
use Rattle.ttx_witness.proofs.lemmas.sent.PacketKinds.{by_kind}
use Rattle.ttx_witness.proofs.lemmas.sent.OwnersAfterSlot.{packet_is}
use Rattle.ttx_witness.proofs.sent.packets.links_in.Goals as goal

pub returns-in-Empty : goal.returns-in-Empty
returns-in-Empty c = by_kind HoldsNoLinks c.args.slot.now IsEmpty c.in-Empty.ensures tt

pub returns-in-Unreadable : goal.returns-in-Unreadable
returns-in-Unreadable c = by_kind HoldsNoLinks c.args.slot.now IsUnreadable c.in-Unreadable.ensures tt

pub returns-in-Header : goal.returns-in-Header
returns-in-Header c = by_kind HoldsNoLinks c.args.slot.now (IsHeader c.in-Header.field-0.mag) c.in-Header.ensures.0 tt

pub returns-in-Row : goal.returns-in-Row
returns-in-Row c = by_kind HoldsNoLinks c.args.slot.now (IsRow c.in-Row.field-0.mag c.in-Row.field-0.number) c.in-Row.ensures.0 tt

pub returns-in-Links : goal.returns-in-Links
returns-in-Links c = packet_is c.args.slot.now (IsLinks c.in-Links.at.mag) c.in-Links.ensures.0

pub returns-in-Info : goal.returns-in-Info
returns-in-Info c = by_kind HoldsNoLinks c.args.slot.now IsInfo c.in-Info.ensures.0 tt

pub returns-in-Other : goal.returns-in-Other
returns-in-Other c = by_kind HoldsNoLinks c.args.slot.now (IsOther c.in-Other.field-0.mag c.in-Other.field-0.number) c.in-Other.ensures tt
