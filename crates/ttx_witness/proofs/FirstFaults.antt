-- What differs first from a page, found slot by slot.
pub use Rattle.ttx_witness.proofs.lemmas.faults.FirstSlots.{placed, page_here, none_taken, after_none, sent_more, taken_more, taken_same}
pub use Rattle.ttx_witness.proofs.lemmas.faults.FirstSlots.{tells_same, first_slots}
pub use Rattle.ttx_witness.proofs.lemmas.faults.OtherSubpages.{first_none, first_more, first_all, other_is}
pub use Rattle.ttx_witness.proofs.lemmas.faults.OverOnePeriod.{all_sent}
