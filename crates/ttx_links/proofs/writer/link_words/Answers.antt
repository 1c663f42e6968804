use Rattle.std.proofs.Common.{◌≡◌, ◌+◌, ◌*◌, ◌/◌, ◌%◌, ◌∷◌, [], ◌∙◌, arith, get_or}
use Rattle.ttx_code.specs.Words.{hamming_word}
use Rattle.ttx_links.proofs.writer.link_words.Goals as goal

pub returns : goal.returns
returns c =
    let m = c.args.m in
    let page = c.args.page in
    let sub = c.args.sub in
    let low = sub % 128 + 128 * (m % 2) in
    let high = sub / 256 + 64 * (m / 2) in
    let s1 : low % 16 ≡ sub % 16 = omega arith in
    let s2 : low / 16 ≡ sub / 16 % 8 + 8 * (m % 2) = omega arith in
    let s3 : high % 16 ≡ sub / 256 % 16 = omega arith in
    let s4 : high / 16 ≡ sub / 4096 + 4 * (m / 2) = omega arith in
    let first = c.ham_pair.ensures in
    let second = c.ham_pair-2.ensures in
    let third = c.ham_pair-3.ensures in
    (λ i. get_or (first i) 0 0 ∷ get_or (first i) 1 0 ∷ get_or (second i) 0 0 ∷ get_or (second i) 1 0 ∷ get_or (third i) 0 0 ∷ get_or (third i) 1 0 ∷ [])
    ∙ (λ i. hamming_word (page % 16) ∷ hamming_word (page / 16) ∷ hamming_word (s1 i) ∷ hamming_word (s2 i) ∷ hamming_word (s3 i) ∷ hamming_word (s4 i) ∷ [])
