use Rattle.ttx_page.proofs.laws.memories_keep_their_rules.Goals as goal

pub returns : goal.returns
returns c = λ m. m.kept
