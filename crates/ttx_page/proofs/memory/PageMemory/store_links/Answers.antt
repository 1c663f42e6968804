use Rattle.std.proofs.Common.{ap₂, ◌∙◌}
use Rattle.ttx_page.specs.Views.{memory_of}
use Rattle.ttx_page.proofs.memory.PageMemory.store_links.Goals as goal

pub returns : goal.returns
returns c =
    ap₂ (λ six show24. record (memory_of c.args.self.now) { links = record { six = six; show24 = show24 } })
    (c.same_links-self.ensures ∙ c.six.ensures.value) c.show24-self.ensures
