use Rattle.std.proofs.Common.{◌≡◌, ◌++◌, OnOk, string_bytes, subst}
use Rattle.ttx_author.specs.Options.{option_names}
use Rattle.ttx_desk.specs.Words.{signs_text, name_list}
use Rattle.ttx_desk.proofs.Appends.{after_three}
use Rattle.ttx_desk.proofs.words.push_name.Goals as goal

pub returns : goal.returns
returns c =
    let out = string_bytes c.push_all_names.new.text in
    subst (λ bytes. OnOk c.push_all_names.result (out ≡ bytes))
    (after_three (string_bytes c.args.text.now) _ (signs_text c.args.name.now) _ (name_list option_names) _ _ _ c.in_ok-push_str.ensures.bytes
    c.in_ok-push_signs.ensures c.in_ok-push_str-2.ensures.bytes)
    c.push_all_names.ensures
