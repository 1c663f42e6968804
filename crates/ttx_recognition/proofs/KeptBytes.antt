-- The first bytes that are read.
use Rattle.std.proofs.Common.{◌≡◌, ℕ, ◌+◌, ◌-◌, ◌≤◌, min, List, ◌++◌, length, take, sym, ◌∙◌, ap, inl, inr, arith}
use Rattle.std.proofs.lemmas.Bool.{cases_lt}
use Rattle.std.proofs.lemmas.List.{length-take, length-take-le, take-take, take_all}
use Rattle.std.proofs.Math.Seq.{take-append-add}

take_both : (a b : ℕ) (l : List ℕ) → take a (take b l) ≡ take (min a b) l
take_both a b l = elim (cases_lt a b) as (λ _. take a (take b l) ≡ take (min a b) l) [
  | inl lt ↦ let e : a ≡ min a b = omega arith in take-take a b l (omega arith) ∙ ap (λ n. take n l) e
  | inr ge ↦ let e : b ≡ min a b = omega arith in take_all a (take b l) (let s = length-take b l in omega arith) ∙ ap (λ n. take n l) e
]

pub kept_more : (kept buf : List ℕ) (len count room : ℕ) → room ≡ min (2688 - len) count → len ≤ 2688 → len ≤ length kept →
    take len kept ++ take room buf ≡ take 2688 (take len kept ++ take count buf)
kept_more kept buf len count room is few inside =
    let size = length-take-le len kept inside in
    let all : length (take len kept) + (2688 - len) ≡ 2688 = omega arith in
    ap (λ n. take len kept ++ take n buf) is
    ∙ ap (λ ys. take len kept ++ ys) (sym (take_both (2688 - len) count buf))
    ∙ sym (take-append-add (take len kept) (take count buf) (2688 - len))
    ∙ ap (λ n. take n (take len kept ++ take count buf)) all
