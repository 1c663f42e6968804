use Rattle.std.proofs.Common.{◌≡◌, ◌∙◌, ◌%◌, ◌<◌, false, ℕ, List, Result, Ok, Err, IfOk, ap, sym, map, take, length, subst}
use Rattle.std.proofs.lemmas.List.{length-map}
use Rattle.ttx_author.specs.Options.{option_number}
use Rattle.ttx_author.specs.Rows.{line_of}
use Rattle.ttx_author.specs.Texts as rule
use Rattle.ttx_author.proofs.Inverse.{AreCodes, text-means, take-codes, without_parity-codes}
use Rattle.ttx_author.proofs.texts.text_of.Goals as goal

if-ok : {V E : Type 0} (r : Result V E) (P Q : V → Type 0) → ((v : V) → P v → Q v) → IfOk r P → IfOk r Q
if-ok (Ok v) P Q f p = f v p
if-ok (Err e) P Q f p = tt

pub written-requires-clause-codes : goal.written-requires-clause-codes
written-requires-clause-codes g c =
    take-codes c.end_of-end.result c.without_parity-codes.result
    (subst AreCodes (sym c.without_parity-codes.ensures) (without_parity-codes c.args.row.now))

pub returns-clause-meaning : goal.returns-clause-meaning
returns-clause-meaning g c =
    let row : List ℕ = map (λ code. code % 128) c.args.row.now in
    let option : ℕ = option_number c.args.option in
    let long : length row ≡ g.row.N = length-map c.args.row.now (λ code. code % 128) ∙ c.told-row in
    let codes : take c.end_of-end.result c.without_parity-codes.result ≡ rule.before_spaces row =
    c.end_of-end.ensures.codes ∙ ap rule.before_spaces c.without_parity-codes.ensures in
    if-ok c.written.result _ _
    (λ text is.
    ap (line_of g.row.N option) (is ∙ ap (λ n. rule.written n false (take c.end_of-end.result c.without_parity-codes.result)) c.number.ensures.value
    ∙ ap (rule.written option false) codes)
    ∙ ap (λ n. line_of n option (rule.text_of option row)) (sym long)
    ∙ text-means option row (subst (λ n. n < 8) c.number.ensures.value c.number.ensures.range) (without_parity-codes c.args.row.now))
    c.written.ensures
