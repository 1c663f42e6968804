use Rattle.ttx_plan.proofs.WholeBlocks.{planned_blocks_are_whole}
use Rattle.ttx_plan.proofs.whole_blocks.planned_blocks_are_whole.Goals as goal

pub returns : goal.returns
returns c = planned_blocks_are_whole (record {
  word = c.words_are_read.ensures;
  is_word = c.words_are_words.ensures;
  empty = c.empty_slots_are_empty.ensures;
  address = c.address_is_read_back.ensures;
  header = c.written_headers_are_read.ensures;
  info = c.written_infos_are_read.ensures;
  turn = c.each_slot_turns.ensures;
}) c.written_links_are_read.ensures c.planned_cycles_keep_their_rules.ensures.sure
