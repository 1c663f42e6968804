use Rattle.std.proofs.Common.{◌∙◌, ap}
use Rattle.toml.specs.Data.{array}
use Rattle.toml.specs.View.{items_of}
use Rattle.toml.proofs.Views.{view-Array}
use Rattle.ttx_desk.proofs.PageItems.{map_items-view}
use Rattle.ttx_desk.proofs.translation.page_array.Goals as goal

pub returns-clause-value : goal.returns-clause-value
returns-clause-value c =
    view-Array c.in_ok-out.out ∙ ap (λ ds. array (items_of ds)) c.in_ok-out.ensures.values ∙ ap array (map_items-view c.args.values.now)
