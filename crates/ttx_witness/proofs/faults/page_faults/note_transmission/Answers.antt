use Rattle.std.proofs.Common.{◌≡◌, ◌==◌, [], slice_index_or, subst, arith}
use Rattle.std.proofs.lemmas.Int.{ints}
use Rattle.ttx_cycle.specs.Cycles.{slots_of}
use Rattle.ttx_page.specs.Views.{page_of}
use Rattle.ttx_witness.specs.sent.Collected.{item_number}
use Rattle.ttx_witness.specs.faults.FirstSlots.{IsAfter}
use Rattle.ttx_witness.proofs.faults.page_faults.note_transmission.Goals as goal

pub returns-then-at-slots : goal.returns-then-at-slots
returns-then-at-slots c = λ j is lt.
    let p = page_of c.args.page.now in let at = c.in-Ok.at in
    let same : at ≡ j = omega (arith, ints, is, c.in-Ok.ensures) in
    subst (λ k. IsAfter p (λ item. item_number item == c.args.number) (slice_index_or (slots_of c.args.cycle.now) k []) k c.args.first.now
    c.note_item.new.first) same
    (subst (λ x. IsAfter p (λ item. item_number item == c.args.number) (slice_index_or x at []) at c.args.first.now c.note_item.new.first)
    c.slots-slots.ensures.slots c.note_item.ensures)
