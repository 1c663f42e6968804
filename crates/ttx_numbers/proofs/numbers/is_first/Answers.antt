use Rattle.std.proofs.Common.{ap, sym, ◌∙◌}
use Rattle.std.specs.Prelude.{not, take}
use Rattle.std.specs.List.{list_any}
use Rattle.std.proofs.lemmas.List.{take-map}
use Rattle.ttx_page.specs.Views.{page_of}
use Rattle.ttx_numbers.specs.Numbers.{share_number}
use Rattle.ttx_numbers.proofs.NumberedPages.{any_of_map}
use Rattle.ttx_numbers.proofs.numbers.is_first.Goals as goal

pub returns : goal.returns
returns c =
    let test = share_number (page_of c.args.page.now) in
    ap not (c.has_number.ensures ∙ any_of_map page_of test (take c.args.index c.args.pages.now)
    ∙ ap (list_any test) (sym (take-map page_of c.args.index c.args.pages.now)))
