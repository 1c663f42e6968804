use Rattle.std.proofs.Common.{◌≡◌, ◌+◌, ◌*◌, ◌%◌, ◌++◌, pos, sym, ap, ◌∙◌, take, length, get_or, [], arith, rules}
use Rattle.ttx_cycle.specs.Files.{file_of}
use Rattle.ttx_page.specs.Laws.{sent_from}
use Rattle.ttx_send.specs.Airing.{at_time, at_moment}
use Rattle.ttx_send.proofs.SentSlots.{file_more, next_round}
use Rattle.ttx_send.proofs.sender.fill.Goals as goal

pub loop-at-preserved : goal.loop-at-preserved
loop-at-preserved c =
    let n = c.loop-at.at in
    let e : 42 * (n + 1) ≡ 42 * n + 42 = omega arith in
    let air = at_moment c.args.slots.now c.args.stamp.now.moment in
    let slot : c.stamped-slot.result ≡ air (pos (c.args.first + n)) =
    c.stamped-slot.ensures ∙ ap (λ p. at_time c.args.stamp.now.moment (get_or c.args.slots.now p [])) c.loop-at.invariant.place in
    record {
      size = search rules;
      place = c.next_place-place.ensures ∙ ap (λ p. (p + 1) % length c.args.slots.now) c.loop-at.invariant.place
          ∙ next_round c.args.first n (length c.args.slots.now);
      sent = ap (λ n. take n c.put_slot.new.bytes) e ∙ c.put_slot.ensures ∙ ap (λ l. l ++ c.stamped-slot.result) c.loop-at.invariant.sent
          ∙ ap (λ l. file_of (sent_from air (pos c.args.first) n) ++ l) slot ∙ sym (file_more air c.args.first n);
    }
