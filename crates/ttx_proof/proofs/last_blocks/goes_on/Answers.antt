use Rattle.std.proofs.Common.{◌≡◌, ◌∙◌, ◌<◌, ℕ, ℤ, [], length, slice_index_or, sym, ap, subst, refl, pos, false, arith}
use Rattle.std.proofs.lemmas.Bool.{both_ways}
use Rattle.ttx_cycle.specs.Cycles.{slots_of, slots_of-IsCycle}
use Rattle.ttx_page.specs.Packets.{packet_of}
use Rattle.ttx_page.specs.Streams.{repeated, heads}
use Rattle.ttx_page.specs.Views.{page_of}
use Rattle.ttx_proof.specs.LastBlocks.{Brings, GoesOn}
use Rattle.ttx_proof.proofs.FirstHangingOver.{ended, first_is, none_over, none_more, right_more}
use Rattle.ttx_proof.proofs.last_blocks.goes_on.Goals as goal

pub returns-then-heads : goal.returns-then-heads
returns-then-heads c =
    let p = page_of c.args.page.now in
    let cycle = c.slots-slots.result.now in
    let same = c.mag.ensures.value ∙ ap (λ id. id.mag) c.id.ensures in
    let none : (z : ℤ) → GoesOn (repeated (slots_of c.args.old.now)) p z → ⊥ =
    subst (λ s. (z : ℤ) → GoesOn (repeated s) p z → ⊥) c.slots-slots.ensures.slots
    (ended cycle p.id.mag (Brings p) (λ slot w. (w.0, w.1.1)) c.loop-j.j c.loop-j-test.true
    (sym (ap (λ m. heads m (packet_of (slice_index_or cycle c.loop-j.j []))) same) ∙ sym c.heads.ensures ∙ c.if-heads.true)
    c.loop-j.invariant.others) in
    ((λ y. absurd (both_ways false refl y)), (λ g. absurd (none g.0 g.1)))

pub returns-then-brings_any : goal.returns-then-brings_any
returns-then-brings_any c =
    let p = page_of c.args.page.now in
    let found = subst (λ s. GoesOn (repeated s) p (pos c.loop-j.j)) c.slots-slots.ensures.slots
    (first_is c.slots-slots.result.now p.id.mag (Brings p) (λ slot w. (w.0, w.1.1)) c.loop-j.j c.loop-j-test.true c.loop-j.invariant.none
    c.loop-j.invariant.others (c.brings_any.ensures.0 c.if-brings_any.true)).0 in
    ((λ y. (pos c.loop-j.j, found)), (λ g. refl))

pub loop-j-preserved : goal.loop-j-preserved
loop-j-preserved c =
    let p = page_of c.args.page.now in
    let cycle = c.slots-slots.result.now in
    let same = c.mag.ensures.value ∙ ap (λ id. id.mag) c.id.ensures in
    record {
      none = none_more cycle p.id.mag (Brings p) (λ slot w. (w.0, w.1.1)) c.loop-j.j c.loop-j.invariant.none
          (sym (ap (λ m. heads m (packet_of (slice_index_or cycle c.loop-j.j []))) same) ∙ sym c.heads.ensures ∙ c.if-heads.false);
      others = right_more cycle p.id.mag (Brings p) (λ slot w. (w.0, w.1.1)) c.loop-j.j c.loop-j.invariant.others
          (λ w. both_ways _ c.if-brings_any.false (c.brings_any.ensures.1 w));
    }

pub returns : goal.returns
returns c =
    let p = page_of c.args.page.now in
    let e = c.slots-slots.ensures.slots in
    let n : c.loop-j.j ≡ length c.slots-slots.result.now = let a = c.loop-j.auto.j-end in let b = c.loop-j-test.false in omega arith in
    let some = subst (λ s. 0 < length s) (sym e) (slots_of-IsCycle c.args.old.now).some in
    let none : (z : ℤ) → GoesOn (repeated (slots_of c.args.old.now)) p z → ⊥ =
    subst (λ s. (z : ℤ) → GoesOn (repeated s) p z → ⊥) e
    (none_over c.slots-slots.result.now p.id.mag (Brings p) (λ slot w. (w.0, w.1.1)) c.each_slot_turns.ensures some
    (subst (λ m. (i : ℕ) → i < m → Brings p (slice_index_or c.slots-slots.result.now i []) → ⊥) n
    c.loop-j.invariant.others)) in
    ((λ y. absurd (both_ways false refl y)), (λ g. absurd (none g.0 g.1)))
