use Rattle.std.proofs.Common.{◌==◌, ◌∙◌, sym}
use Rattle.ttx_certificate.proofs.TextParts.{cut_at, not_cut}
use Rattle.ttx_certificate.proofs.line_words.cut_word.Goals as goal

pub returns-in-Some-clause-parts : goal.returns-in-Some-clause-parts
returns-in-Some-clause-parts c = (cut_at (λ b. b == 32) c.args.text.now c.in-Some.end (sym c.word_end.ensures ∙ c.in-Some.is)).1

pub returns-in-None-clause-parts : goal.returns-in-None-clause-parts
returns-in-None-clause-parts c = not_cut (λ b. b == 32) c.args.text.now (sym c.word_end.ensures ∙ c.in-None.is)
