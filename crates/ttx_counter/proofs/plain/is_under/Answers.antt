use Rattle.std.proofs.Common.{sym, ap}
use Rattle.ttx_packet.specs.Slots.{IsEmpty, IsUnreadable, IsHeader, IsRow, IsLinks, IsInfo, IsOther}
use Rattle.ttx_counter.specs.Sources.{is_under}
use Rattle.ttx_counter.proofs.NotTakenIsKept.{packet_from}
use Rattle.ttx_counter.proofs.plain.is_under.Goals as goal

pub returns-in-Header : goal.returns-in-Header
returns-in-Header c = ap (is_under c.args.mag) (sym (packet_from c.args.slot.now (IsHeader c.in-Header.field-0.mag) c.in-Header.ensures.0))

pub returns-in-Row : goal.returns-in-Row
returns-in-Row c = ap (is_under c.args.mag) (sym (packet_from c.args.slot.now (IsRow c.in-Row.at.mag c.in-Row.at.number) c.in-Row.ensures.0))

pub returns-in-Links : goal.returns-in-Links
returns-in-Links c = ap (is_under c.args.mag) (sym (packet_from c.args.slot.now (IsLinks c.in-Links.at.mag) c.in-Links.ensures.0))

pub returns-in-Empty : goal.returns-in-Empty
returns-in-Empty c = ap (is_under c.args.mag) (sym (packet_from c.args.slot.now IsEmpty c.in-Empty.ensures))

pub returns-in-Unreadable : goal.returns-in-Unreadable
returns-in-Unreadable c = ap (is_under c.args.mag) (sym (packet_from c.args.slot.now IsUnreadable c.in-Unreadable.ensures))

pub returns-in-Info : goal.returns-in-Info
returns-in-Info c = ap (is_under c.args.mag) (sym (packet_from c.args.slot.now IsInfo c.in-Info.ensures.0))

pub returns-in-Other : goal.returns-in-Other
returns-in-Other c = ap (is_under c.args.mag)
    (sym (packet_from c.args.slot.now (IsOther c.in-Other.field-0.mag c.in-Other.field-0.number) c.in-Other.ensures))
