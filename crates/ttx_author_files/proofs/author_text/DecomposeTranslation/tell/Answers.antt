use Rattle.std.proofs.Common.{inl}
use Rattle.std.proofs.lemmas.Result.{IfOk-weaker}
use Rattle.ttx_author_files.proofs.author_text.DecomposeTranslation.tell.Goals as goal

pub returns-in-Ok-clause-told : goal.returns-in-Ok-clause-told
returns-in-Ok-clause-told c =
    IfOk-weaker c.tell_text.result _ _
    (λ told is.
    inl (
      is.0,
      record {
        decomposed = c.in-Ok.decomposed;
        answer = c.in-Ok.ensures.answer;
        begins = c.in-Ok.ensures.begins;
        text_is = is.1;
        line_is = is.2;
      },
    ))
    c.tell_text.ensures.told
