use Rattle.std.proofs.Common.{◌≡◌, ◌++◌, OnOk, string_bytes, subst}
use Rattle.ttx_desk.specs.Words.{utf8_text, nearest_words}
use Rattle.ttx_desk.proofs.Appends.{after_two}
use Rattle.ttx_desk.proofs.words.push_near.Goals as goal

pub returns : goal.returns
returns c =
    let out = string_bytes c.push_nearest.new.text in
    subst (λ bytes. OnOk c.push_nearest.result (out ≡ bytes))
    (after_two (string_bytes c.args.text.now) _ (utf8_text c.args.name.now) (nearest_words c.args.nearest.now) _ _ c.in_ok-push_str.ensures.bytes
    c.in_ok-push_characters.ensures)
    c.push_nearest.ensures
