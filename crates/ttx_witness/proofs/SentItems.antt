-- What the slots of a period send, item by item.
pub use Rattle.ttx_witness.proofs.lemmas.runs.OneByOne.{take_more}
pub use Rattle.ttx_witness.proofs.lemmas.runs.OneMore.{take_whole}
pub use Rattle.ttx_witness.proofs.lemmas.sent.PageIndexes.{ids_are, id_of_page}
pub use Rattle.ttx_witness.proofs.lemmas.sent.StreamOwners.{SameSlot, same_refl, same_tainted}
pub use Rattle.ttx_witness.proofs.lemmas.sent.EntryOwners.{none_at}
pub use Rattle.ttx_witness.proofs.lemmas.sent.NumbersSent.{some_of, sends_some}
pub use Rattle.ttx_witness.proofs.lemmas.sent.ItemPlaces.{placed_item}
pub use Rattle.ttx_witness.proofs.lemmas.sent.AllLists.{all_by_place, place_below}
pub use Rattle.ttx_witness.proofs.lemmas.sent.RunLengths.{some_run}
pub use Rattle.ttx_witness.proofs.lemmas.search.DueItems.{item_one}
