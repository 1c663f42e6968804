use Rattle.std.proofs.Common.{◌≡◌, ◌++◌, OnOk, string_bytes, sym, subst}
use Rattle.ttx_certify.specs.VerdictLines.{reason_text}
use Rattle.ttx_certify.proofs.verdict_lines.push_reason.Goals as goal

pub returns-in-NoHeader : goal.returns-in-NoHeader
returns-in-NoHeader c =
    subst (λ reason. OnOk c.push_page.result (string_bytes c.push_page.new.text ≡ string_bytes c.args.text.now ++ reason_text reason))
    (sym c.in-NoHeader.is) c.push_page.ensures
