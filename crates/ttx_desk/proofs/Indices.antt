-- The indices of rows, one after another.
use Rattle.std.proofs.Common.{◌≡◌, ◌∙◌, ℕ, suc, ◌+◌, ◌-◌, ◌<◌, ◌≤◌, List, [], ◌∷◌, ◌++◌, flat_map, ap, sym, arith, append_assoc}
use Rattle.std.proofs.lemmas.List.{append-nil}
use Rattle.std.specs.List.{range_with_len}
use Rattle.toml.specs.Data.{Members}
use Rattle.ttx_desk.specs.Rows.{indices_from, put_rows, row_put, written_row}
use Rattle.ttx_desk.specs.declared.mistakes.Mistake.{Mistake}

range-more : (index left : ℕ) → left ≡ suc (24 - (index + 1)) → range_with_len index left ≡ index ∷ range_with_len (index + 1) (24 - (index + 1))
range-more index left e = ap (range_with_len index) e

pub indices-more : (index : ℕ) → index < 24 → indices_from index ≡ index ∷ indices_from (index + 1)
unfolding indices_from
indices-more index inside = range-more index (24 - index) (omega arith)

pub indices-none : (index : ℕ) → 24 ≤ index → indices_from index ≡ []
unfolding indices_from
indices-none index past = let none : 24 - index ≡ 0 = omega arith in ap (range_with_len index) none

pub put_rows-more : (option index : ℕ) (lines : List ℕ) (rows out : Members) → index < 24
    → put_rows option lines rows (indices_from index) out ≡ put_rows option lines rows (indices_from (index + 1)) (row_put option index (written_row lines rows index) out)
unfolding put_rows
put_rows-more option index lines rows out inside = ap (λ is. put_rows option lines rows is out) (indices-more index inside)

pub put_rows-end : (option index : ℕ) (lines : List ℕ) (rows out : Members) → 24 ≤ index → put_rows option lines rows (indices_from index) out ≡ out
unfolding put_rows
put_rows-end option index lines rows out past = ap (λ is. put_rows option lines rows is out) (indices-none index past)

pub noted-more : (f : ℕ → List Mistake) (index : ℕ) (noted : List Mistake) → index < 24
    → noted ++ flat_map f (indices_from index) ≡ (noted ++ f index) ++ flat_map f (indices_from (index + 1))
noted-more f index noted inside =
    ap (λ is. noted ++ flat_map f is) (indices-more index inside) ∙ sym (append_assoc noted (f index) (flat_map f (indices_from (index + 1))))

pub noted-end : (f : ℕ → List Mistake) (index : ℕ) (noted : List Mistake) → 24 ≤ index → noted ++ flat_map f (indices_from index) ≡ noted
noted-end f index noted past = ap (λ is. noted ++ flat_map f is) (indices-none index past) ∙ append-nil noted
