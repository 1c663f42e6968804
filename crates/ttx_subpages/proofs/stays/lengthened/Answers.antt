use Rattle.std.proofs.Common.{◌∙◌, sym, ap, arith}
use Rattle.ttx_page.specs.Packets.{packet_of}
use Rattle.ttx_page.specs.Streams.{repeated, heads_matched}
use Rattle.ttx_subpages.proofs.HeadersOfNumbers.{slot_here}
use Rattle.ttx_subpages.proofs.NextHeaders.{interval_skips, interval_kept, interval_more}
use Rattle.ttx_subpages.proofs.stays.lengthened.Goals as goal

pub returns-then-not-heads_matched : goal.returns-then-not-heads_matched
returns-then-not-heads_matched c =
    let slots = c.args.slots.now in
    let sel = c.args.selection.now in
    interval_skips (repeated slots) sel c.args.at c.args.most
    (ap (λ x. heads_matched sel (packet_of x)) (slot_here slots c.args.at c.requires.at) ∙ sym c.heads_matched.ensures ∙ c.if-not-heads_matched.true)

pub returns-then-interval-most : goal.returns-then-interval-most
returns-then-interval-most c =
    interval_kept (repeated c.args.slots.now) c.args.selection.now c.args.at c.args.most c.distance-interval.result c.distance-interval.ensures.is
    c.if-interval-most.true

pub distance-interval-requires-clause-here : goal.distance-interval-requires-clause-here
distance-interval-requires-clause-here c =
    ap (λ x. heads_matched c.args.selection.now (packet_of x)) (slot_here c.args.slots.now c.args.at c.requires.at) ∙ sym c.heads_matched.ensures
    ∙ c.if-not-heads_matched.false

pub returns : goal.returns
returns c =
    let slots = c.args.slots.now in
    let sel = c.args.selection.now in
    interval_more (repeated slots) sel c.args.at c.args.most c.distance-interval.result
    (ap (λ x. heads_matched sel (packet_of x)) (slot_here slots c.args.at c.requires.at) ∙ sym c.heads_matched.ensures ∙ c.if-not-heads_matched.false)
    c.distance-interval.ensures.is (let ge = c.if-interval-most.false in omega arith)
