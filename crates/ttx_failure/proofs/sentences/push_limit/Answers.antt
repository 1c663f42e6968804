use Rattle.std.proofs.Common.{◌∙◌, ◌≡◌, ◌++◌, ◌*◌, ◌/◌, [], ap, length, string_bytes, subst, OnOk}
use Rattle.std.specs.Prelude.{codes, replicate, slice_index_or}
use Rattle.ttx_document.proofs.Joins.{joined, more}
use Rattle.ttx_failure.specs.Places.{time_text}
use Rattle.ttx_failure.specs.Sentences.{limit_text, fields_text}
use Rattle.ttx_failure.proofs.sentences.push_limit.Goals as goal

pub returns : goal.returns
unfolding limit_text
returns c =
    joined c.push_words.result _ _ _ (fields_text c.args.deadline ++ time_text c.args.deadline) (codes " s) passes at ") (more _ _ _ (fields_text c.args.deadline) (time_text c.args.deadline) c.in_ok-push_fields.ensures c.in_ok-push_time.ensures)
    c.push_words.ensures
