use Rattle.std.proofs.Common.{◌≡◌, string_bytes, rules}
use Rattle.ttx_author_files.proofs.author_texts.author_standing.Goals as goal

pub returns-in-Ok : goal.returns-in-Ok
returns-in-Ok c =
    let same : c.into_bytes.result.items ≡ string_bytes c.in-Ok.composed.text = search rules in
    (c.in-Ok.composed, c.in-Ok.ensures.answer, same)
