use Rattle.std.proofs.Common.{◌≡◌, ◌↔◌, ◌∙◌, ◌+◌, ◌%◌, ◌<◌, pos, true, false, [], length, get_or, inl, inr, ap, sym, subst, arith}
use Rattle.std.proofs.lemmas.Bool.{cases_lt, both_ways}
use Rattle.ttx_cycle.specs.Cycles.{slots_of}
use Rattle.ttx_page.specs.Streams.{repeated}
use Rattle.ttx_certify.specs.Seen.{HasView}
use Rattle.ttx_receiver.specs.Tuning.{Tuned, tuned_at}
use Rattle.ttx_render.specs.Comparison.{SameButClock}
use Rattle.ttx_render.specs.View.{view_of}
use Rattle.ttx_counter.specs.Sources.{IsWrongAfter, takes_from}
use Rattle.ttx_page.specs.Packets.{packet_of}
use Rattle.ttx_counter.proofs.SentRows.{slot_at}
use Rattle.ttx_counter.proofs.PlainRuns.{plain_step}
use Rattle.ttx_counter.proofs.NotTakenIsKept.{unseen}
use Rattle.ttx_counter.proofs.plain.first_wrong.Goals.{then-taken, else-taken}
use Rattle.ttx_counter.proofs.plain.first_wrong.Goals as goal

pub takes_from-taken-requires : goal.takes_from-taken-requires
takes_from-taken-requires c = subst (λ s. c.place-at.result < length s) c.slots-period.ensures.slots c.place-at.ensures.inside

pub hear_at-requires : goal.hear_at-requires
hear_at-requires c = subst (λ s. c.place-at.result < length s) c.slots-period.ensures.slots c.place-at.ensures.inside

pub loop-n-preserved : goal.loop-n-preserved
loop-n-preserved c =
    let x = slots_of c.args.sorted.now.cycle.now in
    let old = c.args.receiver.now in
    let own = c.args.own.now in
    let i = c.loop-n.invariant in
    let turn : c.place-at.result ≡ (0 + c.loop-n.n) % length x = c.place-at.ensures.value
    ∙ ap (λ z. z % length c.slots-period.result.now) (omega arith)
    ∙ ap (λ s. (0 + c.loop-n.n) % length s) c.slots-period.ensures.slots in
    record {
      selection = c.hear_at.ensures.selection ∙ i.selection;
      lines = c.hear_at.ensures.lines ∙ i.lines;
      wrong = elim c.if-taken.branch as (λ _. (c.if-taken.wrong ≡ true) ↔ (SameButClock (view_of c.hear_at.new.receiver.memory) own → ⊥)) [
        | then-taken w ↦
            subst (λ b. (b ≡ true) ↔ (SameButClock (view_of c.hear_at.new.receiver.memory) own → ⊥)) (sym w.wrong-is)
            (subst (λ m. (w.is_unlike-wrong-then-taken.result ≡ true) ↔ (SameButClock (view_of m) own → ⊥)) w.memory-then-taken.ensures
            w.is_unlike-wrong-then-taken.ensures)
        | else-taken w ↦
            let m = c.loop-n.receiver.memory in
            let packet = packet_of (get_or x c.place-at.result []) in
            let left : takes_from c.loop-n.receiver.selection m packet ≡ false =
            sym (c.takes_from-taken.ensures ∙ ap (λ z. takes_from c.selection.result z packet) c.memory-in-loop-n.ensures
            ∙ ap (λ z. takes_from z m packet) c.selection.ensures) ∙ w.if-taken.false in
            let same = unseen c.contents_decide.ensures c.loop-n.receiver.lines c.loop-n.receiver.selection m
            c.hear_at.new.receiver.memory packet left (ap (λ (r : Tuned). r.memory) c.hear_at.ensures.value) in
            subst (λ b. (b ≡ true) ↔ (SameButClock (view_of c.hear_at.new.receiver.memory) own → ⊥)) (sym w.wrong-is)
            (subst (λ v. (c.loop-n.wrong ≡ true) ↔ (SameButClock v own → ⊥)) (sym same) i.wrong)
      ];
      memory = λ p former own_is start.
          let w = i.memory p former own_is start in (
            plain_step (tuned_at old.selection old.lines former) c.loop-n.receiver c.hear_at.new.receiver (repeated x)
                (pos 0) c.loop-n.n _ (slot_at x 0 c.loop-n.n c.place-at.result turn) w.0 i.selection i.lines
                c.hear_at.ensures.value,
            (λ k low high wrong. elim (cases_lt k c.loop-n.n) as (λ _. ⊥) [
              | inl lt ↦ w.1 k low lt wrong
              | inr ge ↦
                  let e : k ≡ c.loop-n.n = omega arith in
                  let wrong' = subst (λ z. IsWrongAfter x p old.lines old.selection former z) e wrong in
                  both_ways _ c.if-wrong.false (i.wrong.1
                  (λ v. wrong' (subst (HasView p) w.0
                  (subst (λ o. SameButClock (view_of c.loop-n.receiver.memory) o) own_is v))))
            ]),
          );
    }
