use Rattle.std.proofs.Common.{arith}
use Rattle.std.proofs.lemmas.List.{length-map}
use Rattle.ttx_page.specs.Views.{page_of, ids_of}
use Rattle.ttx_witness.proofs.lemmas.sent.PageIndexes.{few_ids, ids_are}
use Rattle.ttx_witness.proofs.laws.judging_laws.pages_are_few.Goals as goal

pub returns : goal.returns
returns c = λ pages distinct.
    let l = length-map pages (λ p. (page_of p).id) in
    let few = few_ids (ids_of pages) (ids_are c.pages_keep_their_rules.ensures pages) distinct in
    omega arith
