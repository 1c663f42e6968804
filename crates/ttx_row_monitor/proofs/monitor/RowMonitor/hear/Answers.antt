use Rattle.std.proofs.Common.{false, Some, None, refl, get_or, sym, ap, ◌∙◌, subst}
use Rattle.ttx_row_monitor.specs.RowStanding.{IsRowHeard}
use Rattle.ttx_row_monitor.proofs.HeardRows.{first_breach, heard_none, heard_some, none_or, none_and, mine, stands_more}
use Rattle.ttx_row_monitor.proofs.monitor.RowMonitor.hear.Goals as goal

pub muted-packet-requires : goal.muted-packet-requires
muted-packet-requires c = record { received = c.is_slot.ensures; sent = c.due.ensures.slot }

pub returns-in-Some-clause-stands : goal.returns-in-Some-clause-stands
returns-in-Some-clause-stands c = λ w feed st.
    let m = c.args.self.now in
    let flag = c.flag_at-flag.ensures ∙ ap (λ l. get_or l c.place.result false) c.as_slice.ensures.value
    ∙ ap (λ n. get_or m.flags.items n false) (c.place.ensures w st.muted st.stands) in
    stands_more c.each_slot_turns.ensures c.streams_move.ensures m w feed st c.args.slot.now c.muted-packet.result c.due.result.now
    c.flag_at-flag.result (c.due.ensures.is w st.muted st.stands) flag c.muted-packet.ensures _
    (c.in-Some.ensures.stands w st.muted st.stands) st.pages st.flags c.is_lost.result c.is_lost.ensures c.counted-self.ensures.more c.counted-self.ensures.same

pub returns-in-Some-clause-heard : goal.returns-in-Some-clause-heard
returns-in-Some-clause-heard c = λ w feed st.
    let m = c.args.self.now in
    let slot = c.args.slot.now in
    let flag = c.flag_at-flag.ensures ∙ ap (λ l. get_or l c.place.result false) c.as_slice.ensures.value
    ∙ ap (λ n. get_or m.flags.items n false) (c.place.ensures w st.muted st.stands) in
    let here = mine c.each_slot_turns.ensures c.streams_move.ensures m w feed st slot c.muted-packet.result c.due.result.now
    c.flag_at-flag.result (c.due.ensures.is w st.muted st.stands) flag c.muted-packet.ensures in
    subst (λ b. IsRowHeard w feed slot (Some b)) (sym c.breach_of.ensures)
    (heard_some w feed slot st.stands.some st.muted c.muted-packet.result st.are_muted here c.in-Some.breach
    (c.in-Some.ensures.heard w st.muted st.stands))

pub returns-in-Some-clause-first : goal.returns-in-Some-clause-first
returns-in-Some-clause-first c = λ w feed st within.
    let m = c.args.self.now in
    let slot = c.args.slot.now in
    let flag = c.flag_at-flag.ensures ∙ ap (λ l. get_or l c.place.result false) c.as_slice.ensures.value
    ∙ ap (λ n. get_or m.flags.items n false) (c.place.ensures w st.muted st.stands) in
    let here = mine c.each_slot_turns.ensures c.streams_move.ensures m w feed st slot c.muted-packet.result c.due.result.now
    c.flag_at-flag.result (c.due.ensures.is w st.muted st.stands) flag c.muted-packet.ensures in
    none_or _ c.in-Some.breach c.breach_of.result
    (first_breach w feed slot st.stands.some st.muted c.muted-packet.result st.are_muted here within (Some c.in-Some.breach)
    (c.in-Some.ensures.first w st.muted st.stands))

pub returns-in-None-clause-stands : goal.returns-in-None-clause-stands
returns-in-None-clause-stands c = λ w feed st.
    let m = c.args.self.now in
    let flag = c.flag_at-flag.ensures ∙ ap (λ l. get_or l c.place.result false) c.as_slice.ensures.value
    ∙ ap (λ n. get_or m.flags.items n false) (c.place.ensures w st.muted st.stands) in
    stands_more c.each_slot_turns.ensures c.streams_move.ensures m w feed st c.args.slot.now c.muted-packet.result c.due.result.now
    c.flag_at-flag.result (c.due.ensures.is w st.muted st.stands) flag c.muted-packet.ensures _
    (c.in-None.ensures.stands w st.muted st.stands) st.pages st.flags c.is_lost.result c.is_lost.ensures c.counted-self.ensures.more c.counted-self.ensures.same

pub returns-in-None-clause-heard : goal.returns-in-None-clause-heard
returns-in-None-clause-heard c = λ w feed st.
    let m = c.args.self.now in
    let slot = c.args.slot.now in
    let flag = c.flag_at-flag.ensures ∙ ap (λ l. get_or l c.place.result false) c.as_slice.ensures.value
    ∙ ap (λ n. get_or m.flags.items n false) (c.place.ensures w st.muted st.stands) in
    let here = mine c.each_slot_turns.ensures c.streams_move.ensures m w feed st slot c.muted-packet.result c.due.result.now
    c.flag_at-flag.result (c.due.ensures.is w st.muted st.stands) flag c.muted-packet.ensures in
    heard_none w feed slot st.stands.some st.muted c.muted-packet.result st.are_muted here (c.in-None.ensures.heard w st.muted st.stands)

pub returns-in-None-clause-first : goal.returns-in-None-clause-first
returns-in-None-clause-first c = λ w feed st within.
    let m = c.args.self.now in
    let slot = c.args.slot.now in
    let flag = c.flag_at-flag.ensures ∙ ap (λ l. get_or l c.place.result false) c.as_slice.ensures.value
    ∙ ap (λ n. get_or m.flags.items n false) (c.place.ensures w st.muted st.stands) in
    let here = mine c.each_slot_turns.ensures c.streams_move.ensures m w feed st slot c.muted-packet.result c.due.result.now
    c.flag_at-flag.result (c.due.ensures.is w st.muted st.stands) flag c.muted-packet.ensures in
    none_and _ None None refl refl
    (first_breach w feed slot st.stands.some st.muted c.muted-packet.result st.are_muted here within None (c.in-None.ensures.first w st.muted st.stands))
