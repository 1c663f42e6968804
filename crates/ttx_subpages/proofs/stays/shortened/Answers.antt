use Rattle.std.proofs.Common.{◌∙◌, ◌+◌, Some, sym, ap, subst}
use Rattle.ttx_page.specs.Packets.{packet_of}
use Rattle.ttx_page.specs.Streams.{repeated, heads_matched}
use Rattle.ttx_subpages.specs.Stays.{StayBelow}
use Rattle.ttx_subpages.proofs.HeadersOfNumbers.{slot_here}
use Rattle.ttx_subpages.proofs.NextHeaders.{stay_skips, stay_more}
use Rattle.ttx_subpages.proofs.stays.shortened.Goals as goal

pub returns-then-not-heads_matched : goal.returns-then-not-heads_matched
returns-then-not-heads_matched c =
    let slots = c.args.slots.now in
    let sel = c.args.selection.now in
    stay_skips (repeated slots) sel c.args.at c.args.least
    (ap (λ x. heads_matched sel (packet_of x)) (slot_here slots c.args.at c.requires.at) ∙ sym c.heads_matched.ensures ∙ c.if-not-heads_matched.true)

pub returns : goal.returns
returns c = λ below.
    let slots = c.args.slots.now in
    let sel = c.args.selection.now in
    subst (λ n. StayBelow (repeated slots) sel (c.args.at + 1) (Some n)) (sym c.lesser.ensures)
    (stay_more (repeated slots) sel c.args.at c.args.least c.stay_after.result
    (ap (λ x. heads_matched sel (packet_of x)) (slot_here slots c.args.at c.requires.at) ∙ sym c.heads_matched.ensures ∙ c.if-not-heads_matched.false)
    c.stay_after.ensures below)
