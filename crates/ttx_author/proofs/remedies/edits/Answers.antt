use Rattle.std.proofs.Common.{◌≡◌, ◌∙◌, length, nat_eq, rules, subst, IfOk}
use Rattle.std.specs.Str.{chars}
use Rattle.std.proofs.lemmas.Str.{chars_from_encodes}
use Rattle.strsim.specs.Edits.{levenshtein_row}
use Rattle.ttx_author.proofs.remedies.edits.Goals as goal

pub returns : goal.returns
returns c =
    let items : c.in_ok-known.known.items ≡ chars c.args.known.now = search (rules, chars_from_encodes) in
    subst (λ xs. IfOk c.generic_levenshtein.result (λ count. count ≡ levenshtein_row nat_eq xs c.args.name.now (length c.args.name.now)))
    (c.as_slice.ensures.value ∙ items) c.generic_levenshtein.ensures.value
