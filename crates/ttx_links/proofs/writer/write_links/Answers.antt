use Rattle.std.proofs.Common.{◌≡◌, ℕ, ◌+◌, ◌*◌, ◌≤◌, List, ◌++◌, ◌∷◌, [], length, take, take_all, append_assoc, sym, ap, subst, ◌∙◌, arith, flat_map}
use Rattle.ttx_code.specs.Words.{hamming_word}
use Rattle.ttx_packet.specs.Slots.{address_bytes}
use Rattle.ttx_links.specs.Sets.{link_bytes}
use Rattle.ttx_links.proofs.writer.write_links.Goals as goal

-- the part that is written last ends the packet
joined : (n : ℕ) (new old front links back : List ℕ) → length new ≡ 42 → 42 ≤ n → take n new ≡ take 39 old ++ back → take 39 old ≡ front ++ links →
    new ≡ front ++ (links ++ back)
joined n new old front links back size long end begin =
    sym (take_all n new (omega arith)) ∙ end ∙ ap (λ xs. xs ++ back) begin ∙ append_assoc front links back

pub returns : goal.returns
returns c =
    let front = address_bytes c.args.mag 27 ++ hamming_word 0 ∷ [] in
    let all : c.loop-i.i ≡ 6 = omega (arith, c.loop-i-test.false, c.loop-i.auto.i-end) in
    let six : take 6 c.six-six.result.now ≡ c.args.links.now.set.six = ap (take 6) c.six-six.ensures.value
    ∙ take_all 6 _ (omega (arith, c.six-six.ensures.ranges.six)) in
    let begin = subst (λ i. take (3 + 6 * i) c.loop-i.bytes ≡ front ++ flat_map (link_bytes c.args.mag) (take i c.six-six.result.now))
    all c.loop-i.invariant.done in
    let size : length c.back.result ≡ 3 = ap length c.back.ensures ∙ omega (arith, c.six-six.ensures.ranges.crc) in
    joined (39 + length c.back.result) _ c.loop-i.bytes front _ _ (omega (arith, c.put-2.array_long)) (omega (arith, size)) c.put-2.ensures
    (begin ∙ ap (λ xs. front ++ flat_map (link_bytes c.args.mag) xs) six)
    ∙ ap (λ b. front ++ (flat_map (link_bytes c.args.mag) c.args.links.now.set.six ++ b)) c.back.ensures
