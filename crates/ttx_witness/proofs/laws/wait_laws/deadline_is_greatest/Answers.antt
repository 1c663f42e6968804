use Rattle.ttx_witness.proofs.lemmas.wait_times.GreatestPage as L
use Rattle.ttx_witness.proofs.laws.wait_laws.deadline_is_greatest.Goals as goal

pub returns : goal.returns
returns c = L.deadline_is_greatest c.each_slot_turns.ensures c.sure_starts_are_found.ensures c.least_limit_is_found.ensures
    c.pages_keep_their_rules.ensures c.pages_have_six_links.ensures c.blank_is_tested.ensures
