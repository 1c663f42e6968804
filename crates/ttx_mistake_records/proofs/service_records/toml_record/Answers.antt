use Rattle.std.proofs.Common.{◌∙◌, ◌++◌, ap, refl, string_bytes, true}
use Rattle.ttx_mistake_records.specs.Records.{line, place_members, note_members}
use Rattle.ttx_mistake_records.specs.ServiceRecords.{one_error}
use Rattle.ttx_mistake_records.proofs.service_records.toml_record.Goals as goal

pub returns : goal.returns
returns c =
    let file = c.args.file.now in
    let bytes = c.args.bytes.now in
    let m = c.in_ok-mistake.mistake in (
      record {
        place = m.place;
        words = string_bytes m.words;
        first = m.first;
        mistake = c.in_ok-mistake.ensures;
        says = c.in_ok-text.ensures ∙ ap (λ w. line (place_members file bytes m.place true w ++ note_members bytes m.first) ++ line one_error) c.as_str.ensures.value;
      },
      refl,
    )
