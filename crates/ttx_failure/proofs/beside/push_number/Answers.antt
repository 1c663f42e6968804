use Rattle.std.proofs.Common.{◌∙◌, ◌≡◌, ◌++◌, ◌*◌, ◌/◌, [], ap, length, string_bytes, subst, OnOk}
use Rattle.std.specs.Prelude.{codes, replicate, slice_index_or}
use Rattle.ttx_document.proofs.Joins.{joined, more}
use Rattle.std.specs.Fmt.{decimal}
use Rattle.ttx_failure.specs.Beside.{number_text, indent_text}
use Rattle.ttx_failure.proofs.beside.push_number.Goals as goal

pub returns : goal.returns
unfolding number_text
returns c =
    joined c.push_words.result _ _ _ (indent_text c.args.number ++ decimal c.args.number) (codes "  ") (more _ _ _ (indent_text c.args.number) (decimal c.args.number) c.in_ok-push_indent.ensures c.in_ok-push_decimal.ensures)
    c.push_words.ensures
