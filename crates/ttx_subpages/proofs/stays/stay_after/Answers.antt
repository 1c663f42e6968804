use Rattle.std.proofs.Common.{◌≡◌, ◌+◌, ◌-◌, pos, true, refl, sym, subst}
use Rattle.ttx_page.specs.Packets.{packet_of}
use Rattle.ttx_late.proofs.GatheredMemories.{number_heads, matched_number}
use Rattle.ttx_page.specs.Streams.{repeated, heads, heads_matched}
use Rattle.ttx_subpages.specs.Distances.{IsDistance}
use Rattle.ttx_subpages.specs.declared.sought.Sought.TheVariants.{Magazine, Ending, Matched}
use Rattle.ttx_subpages.proofs.HeadersOfNumbers.{slot_here}
use Rattle.ttx_subpages.proofs.NextHeaders.{matched_of_number, stay_is}
use Rattle.ttx_subpages.proofs.stays.stay_after.Goals as goal

pub distance-end-requires-clause-here : goal.distance-end-requires-clause-here
distance-end-requires-clause-here c =
    let slots = c.args.slots.now in
    let sel = c.args.selection.now in
    let pkt = packet_of (repeated slots (pos c.args.at)) in
    let here = subst (λ x. heads_matched sel (packet_of x) ≡ true) (sym (slot_here slots c.args.at c.requires.at)) c.requires.here in
    subst (λ mag. heads mag pkt ≡ true) (sym c.magazine_of-mag.ensures) (number_heads sel pkt (matched_number sel pkt here))

pub distance-next-requires-clause-here : goal.distance-next-requires-clause-here
distance-next-requires-clause-here c =
    let slots = c.args.slots.now in
    let sel = c.args.selection.now in
    let pkt = packet_of (repeated slots (pos c.args.at)) in
    let here = subst (λ x. heads_matched sel (packet_of x) ≡ true) (sym (slot_here slots c.args.at c.requires.at)) c.requires.here in
    subst (λ x. heads_matched x pkt ≡ true) (sym c.number_of.ensures) (matched_of_number sel pkt (matched_number sel pkt here))

pub returns : goal.returns
returns c =
    let slots = c.args.slots.now in
    let sel = c.args.selection.now in
    let e = c.distance-end.result in
    let m = c.distance-next.result in
    let z = c.distance-next_end.result in
    stay_is (repeated slots) sel c.args.at
    (subst (λ x. heads_matched sel (packet_of x) ≡ true) (sym (slot_here slots c.args.at c.requires.at)) c.requires.here) e m z
    (subst (λ mag. IsDistance (repeated slots) (Magazine mag) c.args.at e) c.magazine_of-mag.ensures c.distance-end.ensures.is)
    (subst (λ x. IsDistance (repeated slots) (Matched x) c.args.at m) c.number_of.ensures c.distance-next.ensures.is)
    (subst (λ mag. IsDistance (repeated slots) (Ending mag) (c.args.at + m) z) c.magazine_of-mag.ensures c.distance-next_end.ensures.is)
    (m + z - e) refl
