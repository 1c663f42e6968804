use Rattle.std.proofs.Common.{◌∙◌, ◌≡◌, ◌≤◌, ◌-◌, ◌++◌, true, false, length, nat_lt, replicate, Ok, refl, ap, sym, arith}
use Rattle.std.specs.List.{list_all}
use Rattle.ttx_source.specs.Values.{characters}
use Rattle.ttx_source.proofs.Plain.{few_bytes, plain_padded}
use Rattle.ttx_source.proofs.texts.write_characters.Goals as goal

pub returns-then-is_plain-clause-value : goal.returns-then-is_plain-clause-value
unfolding characters
returns-then-is_plain-clause-value g c =
    let t = c.args.text.now in
    let few : length t ≤ g.row.N = omega (arith, c.if-bytes.false, ap length c.as_bytes-bytes.ensures.value) in
    let codes : c.pad.new.codes ≡ t ++ replicate (g.row.N - length t) 32 =
    c.pad.ensures ∙ ap (λ b. b ++ replicate (g.row.N - length b) 32) c.as_bytes-bytes.ensures.value in
    let plain : list_all (λ b. nat_lt b 128) t ≡ true =
    sym (plain_padded t _) ∙ ap (list_all (λ b. nat_lt b 128)) (sym codes) ∙ sym c.is_plain.ensures ∙ c.if-is_plain.true in
    rw (few_bytes t g.row.N few, plain) (ap Ok codes)

pub returns-else-is_plain-clause-value : goal.returns-else-is_plain-clause-value
unfolding characters
returns-else-is_plain-clause-value g c =
    let t = c.args.text.now in
    let few : length t ≤ g.row.N = omega (arith, c.if-bytes.false, ap length c.as_bytes-bytes.ensures.value) in
    let codes : c.pad.new.codes ≡ t ++ replicate (g.row.N - length t) 32 =
    c.pad.ensures ∙ ap (λ b. b ++ replicate (g.row.N - length b) 32) c.as_bytes-bytes.ensures.value in
    let plain : list_all (λ b. nat_lt b 128) t ≡ false =
    sym (plain_padded t _) ∙ ap (list_all (λ b. nat_lt b 128)) (sym codes) ∙ sym c.is_plain.ensures ∙ c.if-is_plain.false in
    rw (few_bytes t g.row.N few, plain) refl
