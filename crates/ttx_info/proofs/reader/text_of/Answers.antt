use Rattle.std.proofs.Common.{◌≡◌, ◌∙◌, ◌%◌, ap, sym, length, take, drop, map, arith}
use Rattle.std.proofs.lemmas.List.{ext_get_or, get_or-map, get_or-take, get_or-drop, length-map, length-take-le, length-drop}
use Rattle.ttx_info.proofs.reader.text_of.Goals as goal

pub returns : goal.returns
returns c =
    let rest = drop 22 c.args.bytes.now in
    let behind : length rest ≡ 20 = length-drop 22 c.args.bytes.now ∙ omega (arith, c.told-bytes) in
    let long : length (take 20 rest) ≡ 20 = length-take-le 20 rest (omega (arith, behind)) in
    let all : length (map (λ b. b % 128) (take 20 rest)) ≡ 20 = length-map _ _ ∙ long in
    ext_get_or 0 c.loop-i.text (map (λ b. b % 128) (take 20 rest)) (c.loop-i.invariant.size ∙ sym all)
    (λ k l. c.loop-i.invariant.done k (omega (arith, l, c.loop-i.invariant.size, c.loop-i-test.false))
    ∙ sym (get_or-map (λ b. b % 128) (take 20 rest) k 0 0 (omega (arith, l, long, c.loop-i.invariant.size))
    ∙ ap (λ b. b % 128) (get_or-take 20 rest k 0 (omega (arith, l, c.loop-i.invariant.size)) ∙ get_or-drop 22 c.args.bytes.now k 0)))
