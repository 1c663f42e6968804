use Rattle.ttx_plan.proofs.PlannedFollowers.{planned_is_followed}
use Rattle.ttx_plan.proofs.late_cycles.late_cycles_are_followed.Goals as goal

pub returns : goal.returns
returns c = planned_is_followed (record {
  word = c.words_are_read.ensures;
  is_word = c.words_are_words.ensures;
  empty = c.empty_slots_are_empty.ensures;
  address = c.address_is_read_back.ensures;
  header = c.written_headers_are_read.ensures;
  info = c.written_infos_are_read.ensures;
  turn = c.each_slot_turns.ensures;
})
