use Rattle.ttx_arguments.proofs.Written.{extract_words}
use Rattle.ttx_arguments.proofs.laws.extract_words.Goals as goal

pub returns : goal.returns
returns c = extract_words
