use Rattle.std.proofs.Common.{◌==◌, ◌&&◌, ap, sym, ◌∙◌, slice_index_or}
use Rattle.ttx_witness.proofs.lemmas.faults.SentBytes.{are_sent, union_more, sent_more, sent_whole}
use Rattle.ttx_witness.proofs.faults.wrong_slots.are_sent.Goals as goal

pub loop-i-preserved : goal.loop-i-preserved
loop-i-preserved c =
    let byte = slice_index_or c.args.bytes.now c.loop-i.i 0 in
    union_more c.loop-i.union byte c.sent_as.result c.loop-i.auto.union-fits.fits (c.type_inv.bytes c.loop-i.i).fits c.sent_as.type_inv
    ∙ ap (λ t. t && (byte == c.sent_as.result)) c.loop-i.invariant
    ∙ ap (λ o. are_sent c.loop-i.i c.args.bytes.now c.args.characters.now && (byte == o)) c.sent_as.ensures
    ∙ sym (sent_more c.args.bytes.now c.args.characters.now c.loop-i.i c.loop-i-test.true c.if-bytes-characters.false)

pub returns : goal.returns
returns c =
    let whole = sent_whole c.args.bytes.now c.args.characters.now c.loop-i.i c.if-bytes-characters.false c.loop-i-test.false in
    ((λ t. whole.0 (sym c.loop-i.invariant ∙ t)), (λ q. c.loop-i.invariant ∙ whole.1 q))
