use Rattle.std.proofs.Common.{◌≡◌, ℕ, take}
use Rattle.ttx_cycle.specs.Cycles.{slots_of}
use Rattle.ttx_page.specs.Streams.{repeated}
use Rattle.ttx_page.specs.Views.{page_of}
use Rattle.ttx_page.specs.declared.item.Item.{Item}
use Rattle.ttx_witness.specs.sent.Collected.{IsItem, item_number}
use Rattle.ttx_witness.specs.sent.ItemTransmissions.{sent_in}
use Rattle.ttx_witness.specs.faults.FirstSlots.{AreFirstTaken, TakenBelow}
use Rattle.ttx_witness.proofs.lemmas.faults.CollectedSlots.{TakenWith}
use Rattle.ttx_witness.proofs.faults.page_faults.note_all.Given as goal

abbrev pub invariant-loop-i : goal.invariant-loop-i
invariant-loop-i l = record {
  first : (lines : ℕ) (item : Item) → IsItem item → item_number item ≡ l.number →
      l.sent ≡ sent_in (slots_of l.cycle) (page_of l.page).id lines item →
      AreFirstTaken (page_of l.page) (repeated (slots_of l.cycle)) (TakenBelow (slots_of l.cycle) (page_of l.page).id l.number) l.initial.first →
      AreFirstTaken (page_of l.page) (repeated (slots_of l.cycle)) (TakenWith (slots_of l.cycle) (page_of l.page) l.number (take l.i l.sent)) l.first;
}
