use Rattle.std.proofs.Common.{◌∙◌, ap, set, get_or, arith}
use Rattle.std.specs.Int.{reverse_bits, w8}
use Rattle.ttx_recognition.proofs.Reversed.{reversed_more, reversed_all}
use Rattle.ttx_recognition.proofs.recognition.reverse.Goals as goal

pub loop-i-preserved : goal.loop-i-preserved
loop-i-preserved c =
    let i = c.loop-i.i in
    let lt = c.loop-i-test.true in
    let size = c.fits-packet in
    ap (λ v. set c.loop-i.packet i v) c.reverse_bits.ensures
    ∙ ap (λ p. set p i (reverse_bits w8 (get_or p i 0))) c.loop-i.invariant
    ∙ reversed_more (reverse_bits w8) c.args.packet.now i (omega arith)
