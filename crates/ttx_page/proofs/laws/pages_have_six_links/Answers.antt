use Rattle.ttx_page.proofs.laws.pages_have_six_links.Goals as goal

pub returns : goal.returns
returns c = λ p. p.linked.six
