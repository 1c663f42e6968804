use Rattle.std.proofs.Common.{length, slice_get, sym, ap, ◌∙◌}
use Rattle.ttx_cycle.specs.Cycles.{slots_of}
use Rattle.ttx_extract.proofs.NamedIds.{are_named}
use Rattle.ttx_extract.proofs.page_names.named_pages.Goals as goal

pub blank_pages-requires : goal.blank_pages-requires
blank_pages-requires c = λ n id at.
    let slots = slots_of c.args.cycle.now in
    let same = c.as_slice.ensures.keys ∙ c.in-Ok.ensures in
    (are_named slots (length slots)).numbered n id (ap (λ ids. slice_get ids n) (sym same) ∙ at)
