use Rattle.ttx_page.specs.Views.{page_of}
use Rattle.ttx_witness.proofs.lemmas.wait_times.GreatestItem.{page_greatest}
use Rattle.ttx_witness.proofs.laws.wait_laws.page_is_greatest.Goals as goal

pub returns : goal.returns
returns c = λ cycle some most pages page class repeat lines a b d e wait is right told are.
    page_greatest c.each_slot_turns.ensures c.sure_starts_are_found.ensures c.least_limit_is_found.ensures cycle some most (page_of page)
    (λ item seen. c.blank_is_tested.ensures (page_of page) item (c.pages_keep_their_rules.ensures page) (c.pages_have_six_links.ensures page) seen)
    class repeat lines d e a b pages told are wait is right
