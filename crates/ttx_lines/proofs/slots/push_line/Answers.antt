use Rattle.std.proofs.Common.{◌≡◌, ◌++◌, OnOk, subst, refl, string_bytes}
use Rattle.ttx_lines.proofs.FieldLines.{field_line, info_line}
use Rattle.ttx_lines.proofs.slots.push_line.Goals as goal

pub returns-in-Header : goal.returns-in-Header
returns-in-Header c =
    let shown = c.in-Header.ensures in
    subst (λ t. OnOk c.push_header_line.result (string_bytes c.push_header_line.new.text ≡ string_bytes c.args.text.now ++ t))
    (field_line c.args.slot _ _ _ _ c.args.bytes.now _ 0 refl shown.0 shown.1) c.push_header_line.ensures

pub returns-in-Links : goal.returns-in-Links
returns-in-Links c =
    let shown = c.in-Links.ensures in
    subst (λ t. OnOk c.push_links_line.result (string_bytes c.push_links_line.new.text ≡ string_bytes c.args.text.now ++ t))
    (field_line c.args.slot _ _ _ _ c.args.bytes.now _ 27 refl shown.0 shown.1) c.push_links_line.ensures

pub returns-in-Info : goal.returns-in-Info
returns-in-Info c =
    let shown = c.in-Info.ensures in
    subst (λ t. OnOk c.push_info_line.result (string_bytes c.push_info_line.new.text ≡ string_bytes c.args.text.now ++ t))
    (info_line c.args.slot _ _ c.args.bytes.now shown.0 shown.1 shown.2) c.push_info_line.ensures
