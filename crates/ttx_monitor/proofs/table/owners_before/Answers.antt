use Rattle.std.proofs.Common.{◌≡◌, ◌↔◌, ◌+◌, ◌-◌, ◌%◌, ◌<◌, pos, ◌-ℤ◌, length, false, true, sym, ap, ◌∙◌, subst, arith, mod-eq_of_lt}
use Rattle.ttx_page.specs.Streams.{repeated}
use Rattle.ttx_counter.specs.Listening.{HasOwner}
use Rattle.ttx_monitor.specs.Places.{is_owner}
use Rattle.ttx_counter.proofs.SentRows.{slot_before, mine_more, mine_begins, owned_at}
use Rattle.ttx_monitor.proofs.SlotOwners.{no_owner}
use Rattle.ttx_monitor.proofs.table.owners_before.Goals as goal

pub loop-j-init : goal.loop-j-init
loop-j-init c =
    let x = c.slots-slots.result.now in
    record {
      scanned = λ ids index i id is of_id. no_owner i (id.mag - 1) ∙ mine_begins id (repeated x) (pos 0 -ℤ pos (length x)) false;
      apart = λ ids index m i id lt is of_id other. no_owner i m;
    }

pub loop-j-preserved : goal.loop-j-preserved
loop-j-preserved c =
    let x = c.slots-slots.result.now in
    let lt : c.loop-j.j < length x = omega arith in
    let zero_on : c.loop-j.j ≡ 0 + c.loop-j.j = omega arith in
    let place : c.loop-j.j ≡ (0 + c.loop-j.j) % length x = sym (mod-eq_of_lt lt) ∙ ap (λ z. z % length x) zero_on in
    record {
      scanned = λ ids index i id is of_id. mine_more id (repeated x) (pos 0 -ℤ pos (length x)) false _ _ c.loop-j.j _
          (c.loop-j.invariant.scanned ids index i id is of_id)
          (slot_before c.cycles_repeat.ensures x c.slots-slots.ensures.cycle.some 0 c.loop-j.j c.loop-j.j place)
          (c.note_owner.ensures.after ids index i id is of_id);
      apart = λ ids index. c.note_owner.ensures.apart ids index (c.loop-j.invariant.apart ids index);
    }

pub returns-clause-owners : goal.returns-clause-owners
returns-clause-owners c = λ ids index i id is of_id.
    let x = c.slots-slots.result.now in
    subst (λ y. (is_owner i id c.loop-j.owners ≡ true) ↔ HasOwner (repeated y) id (pos 0)) c.slots-slots.ensures.slots
    (owned_at c.cycles_repeat.ensures x c.slots-slots.ensures.cycle.some id 0 c.loop-j.j (is_owner i id c.loop-j.owners) (omega arith)
    (c.loop-j.invariant.scanned ids index i id is of_id))
