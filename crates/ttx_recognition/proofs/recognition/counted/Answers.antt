use Rattle.std.proofs.Common.{◌+◌, ◌&&◌, suc, if◌then◌else◌, ◌∙◌, ap, arith}
use Rattle.ttx_packet.specs.Slots.{is_empty}
use Rattle.ttx_recognition.specs.Packets.{reads}
use Rattle.ttx_recognition.specs.Forms.{packet_at, is_framed}
use Rattle.ttx_recognition.proofs.CountedPackets.{none_sent, none_read, sent_more, read_more}
use Rattle.ttx_recognition.proofs.recognition.counted.Goals as goal

pub loop-i-init : goal.loop-i-init
loop-i-init c = record {
  sent = none_sent c.args.form c.args.bytes.now;
  read = none_read c.args.form c.args.bytes.now;
  few = omega arith;
  few_read = omega arith;
}

pub loop-i-preserved : goal.loop-i-preserved
loop-i-preserved c =
    let inv = c.loop-i.invariant in
    let few = inv.few in
    let few_read = inv.few_read in
    let more = c.with_sent-sent.ensures.few in
    let more_read = c.with_read-read.ensures.few in
    let packet = packet_at c.args.form c.args.bytes.now c.loop-i.i in
    let framed = is_framed c.args.form c.args.bytes.now c.loop-i.i in
    record {
      sent = c.with_sent-sent.ensures.is ∙ ap (λ p. if is_empty p then c.loop-i.sent else suc c.loop-i.sent) c.packet_at-packet.ensures
          ∙ ap (λ n. if is_empty packet then n else suc n) inv.sent ∙ sent_more c.args.form c.args.bytes.now c.loop-i.i;
      read = c.with_read-read.ensures.is
          ∙ ap (λ b. if b && reads c.packet_at-packet.result then suc c.loop-i.read else c.loop-i.read) c.is_framed-framed.ensures
          ∙ ap (λ p. if framed && reads p then suc c.loop-i.read else c.loop-i.read) c.packet_at-packet.ensures
          ∙ ap (λ n. if framed && reads packet then suc n else n) inv.read ∙ read_more c.args.form c.args.bytes.now c.loop-i.i;
      few = omega arith;
      few_read = omega arith;
    }
