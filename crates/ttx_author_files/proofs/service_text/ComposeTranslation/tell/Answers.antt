use Rattle.std.proofs.Common.{inl, inr}
use Rattle.std.proofs.lemmas.Result.{IfOk-weaker}
use Rattle.ttx_author_files.proofs.service_text.ComposeTranslation.tell.Goals as goal

pub returns-in-Ok-clause-told : goal.returns-in-Ok-clause-told
returns-in-Ok-clause-told c =
    IfOk-weaker c.tell_text.result _ _
    (λ told is.
    inl (
      is.0,
      record { composed = c.in-Ok.composed; answer = c.in-Ok.ensures.answer; comment = c.in-Ok.ensures.comment; text_is = is.1; line_is = is.2 },
    ))
    c.tell_text.ensures.told

pub returns-in-Err-clause-told : goal.returns-in-Err-clause-told
returns-in-Err-clause-told c =
    IfOk-weaker c.tell_lines.result _ _
    (λ told is. inr (is.0, record { why = c.in-Err.fault; answer = c.in-Err.ensures.answer; says = is.2; none = is.1 })) c.tell_lines.ensures.told
