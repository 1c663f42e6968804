use Rattle.std.proofs.Common.{◌≡◌, ◌++◌, OnOk, map, string_bytes, subst}
use Rattle.ttx_desk.specs.Words.{name_list}
use Rattle.ttx_desk.proofs.Appends.{after_one}
use Rattle.ttx_desk.proofs.words.push_known.Goals as goal

pub returns : goal.returns
returns c =
    let out = string_bytes c.push_name_list.new.text in
    subst (λ bytes. OnOk c.push_name_list.result (out ≡ bytes))
    (after_one (string_bytes c.args.text.now) _ (name_list (map (λ name. name.now) c.args.names.now)) _ c.in_ok-push_str.ensures.bytes)
    c.push_name_list.ensures
