use Rattle.ttx_plan.proofs.RepeatedHeaders.{planned_is_sure}
use Rattle.ttx_plan.proofs.UnderHeaders.{planned_is_clean, planned_headers_are_own}
use Rattle.ttx_plan.proofs.OwnRows.{planned_rows_are_own}
use Rattle.ttx_plan.proofs.ReadPackets.{LawsBelow}
use Rattle.ttx_plan.proofs.laws.planned_cycles_keep_their_rules.Goals as goal

below : goal.After-each_slot_turns → LawsBelow
below c = record {
  word = c.words_are_read.ensures;
  is_word = c.words_are_words.ensures;
  empty = c.empty_slots_are_empty.ensures;
  address = c.address_is_read_back.ensures;
  header = c.written_headers_are_read.ensures;
  info = c.written_infos_are_read.ensures;
  turn = c.each_slot_turns.ensures;
}

pub returns-clause-clean : goal.returns-clause-clean
returns-clause-clean c = planned_is_clean (below c)

pub returns-clause-headers : goal.returns-clause-headers
returns-clause-headers c = planned_headers_are_own (below c)

pub returns-clause-rows : goal.returns-clause-rows
returns-clause-rows c = planned_rows_are_own (below c)

pub returns-clause-sure : goal.returns-clause-sure
returns-clause-sure c = planned_is_sure (below c)
