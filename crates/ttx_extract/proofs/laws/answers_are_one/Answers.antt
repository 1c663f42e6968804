use Rattle.ttx_extract.proofs.OneAnswer.{one_answer}
use Rattle.ttx_extract.proofs.laws.answers_are_one.Goals as goal

pub returns : goal.returns
returns c = λ slots some most lines a b is_a is_b m n kind_a kind_b.
    one_answer slots lines c.transmissions_are_listed.ensures some most a b is_a is_b m n kind_a kind_b
