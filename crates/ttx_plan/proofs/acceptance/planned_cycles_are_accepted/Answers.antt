use Rattle.ttx_plan.proofs.PlannedAcceptance.{planned_is_accepted, planned_is_found}
use Rattle.ttx_plan.proofs.OwnRows.{planned_links_are_own}
use Rattle.ttx_plan.proofs.ReadPackets.{LawsBelow}
use Rattle.ttx_plan.proofs.WholeBlocks.{planned_items_are_sent}
use Rattle.ttx_plan.proofs.SteadyPages.{planned_is_steady}
use Rattle.ttx_plan.proofs.acceptance.planned_cycles_are_accepted.Goals as goal

below : goal.After-sure_items_are_accepted → LawsBelow
below c = record {
  word = c.words_are_read.ensures;
  is_word = c.words_are_words.ensures;
  empty = c.empty_slots_are_empty.ensures;
  address = c.address_is_read_back.ensures;
  header = c.written_headers_are_read.ensures;
  info = c.written_infos_are_read.ensures;
  turn = c.each_slot_turns.ensures;
}

pub returns-clause-links : goal.returns-clause-links
returns-clause-links c = planned_links_are_own (below c) c.written_links_are_read.ensures

pub returns-clause-sent : goal.returns-clause-sent
returns-clause-sent c = planned_items_are_sent (below c) c.written_links_are_read.ensures

pub returns-clause-steady : goal.returns-clause-steady
returns-clause-steady c = planned_is_steady (below c) c.written_links_are_read.ensures c.steady_sends_its_own.ensures

pub returns-clause-accepted : goal.returns-clause-accepted
returns-clause-accepted c =
    planned_is_accepted (below c) c.written_links_are_read.ensures c.steady_sends_its_own.ensures c.blank_is_tested.ensures
    c.all_sure_have_starts.ensures c.sure_items_are_accepted.ensures

pub returns-clause-found : goal.returns-clause-found
returns-clause-found c =
    planned_is_found (below c) c.written_links_are_read.ensures c.steady_sends_its_own.ensures c.blank_is_tested.ensures
    c.all_sure_have_starts.ensures c.sure_items_are_accepted.ensures
