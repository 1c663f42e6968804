use Rattle.std.proofs.Common.{◌∙◌, ◌++◌, ◌∷◌, [], ap, codes, refl, string_bytes, true}
use Rattle.ttx_mistakes.specs.LongLines.{first_lines, lines_at}
use Rattle.ttx_mistakes.proofs.long_reports.toml_report.Goals as goal

pub returns : goal.returns
returns c =
    let file = c.args.file.now in
    let bytes = c.args.bytes.now in
    let m = c.in_ok-mistake.mistake in (
      record {
        place = m.place;
        words = string_bytes m.words;
        first = m.first;
        mistake = c.in_ok-mistake.ensures;
        says = c.in_ok-text.ensures
            ∙ ap (λ w. lines_at file bytes m.place true w ++ first_lines file bytes m.first ++ codes "1 error, 0 warnings" ++ 10 ∷ []) c.as_bytes.ensures.value;
      },
      refl,
    )
