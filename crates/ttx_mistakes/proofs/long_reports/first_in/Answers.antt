use Rattle.std.proofs.Common.{◌≡◌, true, refl}
use Rattle.std.specs.Str.{is_utf8}
use Rattle.std.proofs.lemmas.Str.{is_utf8-from_IsUtf8}
use Rattle.ttx_source.proofs.DocumentTexts.{not_utf8}
use Rattle.ttx_mistakes.proofs.long_reports.first_in.Goals as goal

pub returns-in-Ok : goal.returns-in-Ok
returns-in-Ok c =
    let text : is_utf8 c.args.bytes.now ≡ true = is_utf8-from_IsUtf8 c.args.bytes.now c.in-Ok.ensures.cases.1 in
    rw text (rw c.in-Ok.ensures.cases.0 at c.first_place.ensures)

pub returns-in-Err : goal.returns-in-Err
returns-in-Err c = rw (not_utf8 c.args.bytes.now c.in-Err.ensures.cases.0) refl
