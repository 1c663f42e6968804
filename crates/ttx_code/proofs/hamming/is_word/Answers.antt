use Rattle.std.proofs.Common.{◌≡◌, ◌∙◌, sym, arith, ap, false, get_or}
use Rattle.ttx_code.specs.Words.{is_word, number_of}
use Rattle.ttx_code.specs.declared.hamming.TheConstants.{ARE_WORDS}
use Rattle.ttx_code.proofs.Numbers.{is_word_by_table, words_are_words, words_have_numbers}
use Rattle.ttx_code.proofs.hamming.is_word.Goals as goal

pub returns-clause-word : goal.returns-clause-word
returns-clause-word c =
    let value : get_or ARE_WORDS c.from.result false ≡ is_word c.args.b = ap (λ i. get_or ARE_WORDS i false) c.from.ensures
    ∙ is_word_by_table c.args.b (omega arith) in (
      (λ t. let k = words_have_numbers c.args.b (omega arith) (sym value ∙ t) in (number_of c.args.b, k.1, k.2)),
      λ (n, low, e). value ∙ ap is_word e ∙ words_are_words n low,
    )

pub returns-clause-value : goal.returns-clause-value
returns-clause-value c = ap (λ i. get_or ARE_WORDS i false) c.from.ensures ∙ is_word_by_table c.args.b (omega arith)
