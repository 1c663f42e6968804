use Rattle.ttx_page.proofs.laws.memories_are_former.Goals as goal

pub returns : goal.returns
returns c = λ m. (m.kept, λ fresh. (m.kept, fresh))
