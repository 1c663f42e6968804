use Rattle.std.proofs.Common.{◌≡◌, ◌+◌, ◌*◌, ◌++◌, take, length, length-append, ap, ◌∙◌, arith, rules}
use Rattle.ttx_air.proofs.PiecesOfAir.{more_sent, nothing_more, more_is}
use Rattle.ttx_air.proofs.airing.piece_bytes.Goals as goal

pub loop-at-preserved : goal.loop-at-preserved
loop-at-preserved g c = record {
  size = search rules;
  sent = omega (arith, c.loop-at.invariant.sent, c.next_sent-slot.ensures.sent);
  so_far = λ gone first begin past slots is so_far.
      let n = c.loop-at.at in
      let s = c.loop-at.invariant.so_far gone first begin past slots is so_far in
      let number : c.loop-at.station.sent ≡ length (slots ++ s.more) =
      omega (arith, is, c.loop-at.invariant.sent, length-append slots s.more, s.long) in
      let next = c.next_sent-slot.ensures.so_far gone first begin s.past (slots ++ s.more) number s.so_far in
      let e : 42 * (n + 1) ≡ 42 * n + 42 = omega arith in
      more_sent (take (42 * (n + 1)) c.put_slot.new.bytes) c.next_sent-slot.result s next
      (ap (λ k. take k c.put_slot.new.bytes) e ∙ c.put_slot.ensures ∙ ap (λ l. take (42 * n) c.loop-at.bytes ++ l) c.stamped.ensures);
}

pub loop-at-init : goal.loop-at-init
loop-at-init g c = record {
  size = c.room-bytes.ensures;
  sent = omega arith;
  so_far = λ gone first begin past slots is so_far. nothing_more c.args.load.now.stamp.moment so_far;
}

pub returns-clause-so_far : goal.returns-clause-so_far
returns-clause-so_far g c = λ gone first begin past slots is so_far.
    let e : c.loop-at.at ≡ c.args.load.now.slots = omega arith in
    more_is c.loop-at.at c.args.load.now.slots c.loop-at.bytes e (c.loop-at.invariant.so_far gone first begin past slots is so_far)
