use Rattle.ttx_page.proofs.laws.pages_keep_their_rules.Goals as goal

pub returns : goal.returns
returns c = λ p. p.kept
