use Rattle.std.proofs.Common.{◌+◌, ◌++◌, ◌∷◌, [], take, string_bytes, subst, sym, ap, ◌∙◌}
use Rattle.std.proofs.lemmas.List.{take_more}
use Rattle.toml.specs.View.{table_view}
use Rattle.ttx_desk.specs.MistakeLines.{AreMistakeLines}
use Rattle.ttx_desk.proofs.OptionNames.{lines-more}
use Rattle.ttx_desk.proofs.messages.mistake_lines.Goals as goal

pub loop-mistake-preserved : goal.loop-mistake-preserved
loop-mistake-preserved c =
    let author = c.args.author.now in
    let mistakes = c.args.mistakes.now in
    let i = c.loop-mistake.mistake-index in
    let Are = AreMistakeLines author.file.now author.text.now (table_view author.table.now) in
    subst (λ ms. Are ms (string_bytes c.push_str.new.self)) (sym (take_more mistakes i _ c.loop-mistake-test.true))
    (subst (Are (take i mistakes ++ _ ∷ [])) (sym (c.in_ok-push_str.ensures.bytes ∙ ap (λ l. string_bytes c.loop-mistake.lines ++ l) c.as_str.ensures.value))
    (lines-more author.file.now author.text.now (table_view author.table.now) (take i mistakes) _ (string_bytes c.loop-mistake.lines)
    (string_bytes c.in_ok-line.line) c.loop-mistake.invariant c.in_ok-line.ensures))
