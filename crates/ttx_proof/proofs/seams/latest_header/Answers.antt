use Rattle.std.proofs.Common.{◌≡◌, ◌∙◌, ◌<◌, ◌-◌, [], length, slice_index_or, Some, None, sym, subst, false, ℕ, arith}
use Rattle.ttx_page.specs.Packets.{packet_of}
use Rattle.ttx_page.specs.Streams.{heads}
use Rattle.ttx_cycle.specs.Cycles.{slots_of-IsCycle}
use Rattle.ttx_proof.specs.Seams.{TellsLatest}
use Rattle.ttx_proof.proofs.LatestHeaderBefore.{latest_at, none_met}
use Rattle.ttx_proof.proofs.seams.latest_header.Goals as goal

pub returns-then-heads : goal.returns-then-heads
returns-then-heads c =
    let cycle = c.slots-slots.result.now in
    subst (λ s. TellsLatest s c.args.mag (Some c.loop-back.back)) c.slots-slots.ensures.slots (
      c.loop-back-test.true,
      latest_at cycle c.args.mag c.loop-back.back c.loop-back-test.true
          (sym c.heads.ensures ∙ c.if-heads.true) c.loop-back.invariant.none,
    )

pub returns : goal.returns
returns c =
    let e = c.slots-slots.ensures.slots in
    let n : c.loop-back.back ≡ length c.slots-slots.result.now = let a = c.loop-back.auto.back-end in let b = c.loop-back-test.false in omega arith in
    let none = subst (λ m. (i : ℕ) → i < m → heads c.args.mag
    (packet_of (slice_index_or c.slots-slots.result.now (length c.slots-slots.result.now - 1 - i) [])) ≡ false) n
    c.loop-back.invariant.none in
    let some = subst (λ s. 0 < length s) (sym e) (slots_of-IsCycle c.args.old.now).some in
    subst (λ s. TellsLatest s c.args.mag None) e (none_met c.slots-slots.result.now c.args.mag c.each_slot_turns.ensures some none)
