use Rattle.std.proofs.Common.{◌==◌, ap, ◌∙◌, w32, arith}
use Rattle.std.proofs.lemmas.Int.{to_z_pos}
use Rattle.ttx_certify.specs.walks.PageFacts.{heads_after}
use Rattle.ttx_certify.proofs.walks.page_facts.note_facts.Goals as goal

pub returns : goal.returns
returns c = record {
  heads = c.heads_after-facts.ensures ∙ ap (λ j. heads_after c.args.limit j (0 == c.args.number) c.args.facts.now.heads)
      (to_z_pos w32 c.args.slot.now.at (let small = c.args.slot.now.small in omega arith));
  first = c.note_item.ensures;
}
