use Rattle.std.proofs.Common.{◌≡◌, ℕ, ◌+◌, ◌++◌, ◌∙◌, ap, sym, take, take_all, length, List, arith}
use Rattle.ttx_header.proofs.writer.joined.Goals as goal

one_by_one : (words text clock first second third : List ℕ) → length words ≡ 10 → length text ≡ 24 → length clock ≡ 8 → length third ≡ 42 →
    take (0 + length words) first ≡ words → take (10 + length text) second ≡ take 10 first ++ text →
    take (34 + length clock) third ≡ take 34 second ++ clock → third ≡ (words ++ text) ++ clock
one_by_one words text clock first second third w t c long one two three =
    let front : take 10 first ≡ words = ap (λ n. take n first) (let e : 10 ≡ 0 + length words = omega (arith, w) in e) ∙ one in
    let both : take 34 second ≡ words ++ text =
    ap (λ n. take n second) (let e : 34 ≡ 10 + length text = omega (arith, t) in e) ∙ two ∙ ap (λ xs. xs ++ text) front in
    sym (take_all (34 + length clock) third (omega (arith, c, long))) ∙ three ∙ ap (λ xs. xs ++ clock) both

pub returns : goal.returns
returns c = one_by_one c.args.words.now c.args.text.now c.args.clock.now c.put.new.bytes c.put-2.new.bytes c.put-3.new.bytes
    c.told-words c.told-text c.told-clock c.put-3.array_long c.put.ensures c.put-2.ensures c.put-3.ensures
