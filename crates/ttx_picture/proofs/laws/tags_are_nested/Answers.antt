use Rattle.ttx_picture.proofs.Nested.{tags_are_nested_lem}
use Rattle.ttx_picture.proofs.laws.tags_are_nested.Goals as goal

pub returns : goal.returns
returns c = tags_are_nested_lem
