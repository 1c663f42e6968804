use Rattle.std.proofs.Common.{◌≡◌, ◌∙◌, ap, rules, string_bytes, subst, sym}
use Rattle.ttx_check.specs.Reports.{IsServiceReport}
use Rattle.ttx_mistakes.specs.Checking.{strict_status}
use Rattle.ttx_mistakes.proofs.check_report.short.Goals as goal

pub returns : goal.returns
returns c =
    let plain = c.in_ok-report.report.status in
    let same : c.into_bytes-text.result.items ≡ string_bytes c.in_ok-report.report.text = search rules in (
      plain,
      subst (λ t. IsServiceReport c.args.bytes.now t plain) (sym same) c.in_ok-report.ensures,
      c.strict_status-status.ensures ∙ ap (λ t. strict_status c.args.strict t plain) c.as_slice.ensures.value,
    )
