-- A packet file is that of one list of slots, and a text that of one service.
use Rattle.std.proofs.Common.{◌≡◌, ◌∙◌, ℕ, suc, ◌+◌, List, [], ◌∷◌, ◌++◌, length, take, drop, Result, Ok, Err, refl, sym, ap, arith, length-append}
use Rattle.std.specs.Prelude.{All}
use Rattle.std.proofs.lemmas.List.{take_at, drop_at}
use Rattle.ttx_cycle.specs.Files.{file_of}
use Rattle.ttx_packet.specs.Slots.{IsSlot}

some_bytes : (x : List ℕ) (xs : List (List ℕ)) → IsSlot x → [] ≡ file_of (x ∷ xs) → ⊥
some_bytes x xs is e =
    let size : length (x ++ file_of xs) ≡ length x + length (file_of xs) = length-append x (file_of xs) in
    let none : 0 ≡ length (x ++ file_of xs) = ap length e in
    absurd (omega (arith, size, none, is.size))

pub same_slots : (xs ys : List (List ℕ)) → All IsSlot xs → All IsSlot ys → file_of xs ≡ file_of ys → xs ≡ ys
same_slots [] [] a b e = refl
same_slots [] (y ∷ ys) a b e = absurd (some_bytes y ys (b 0 y (omega arith)) e)
same_slots (x ∷ xs) [] a b e = absurd (some_bytes x xs (a 0 x (omega arith)) (sym e))
same_slots (x ∷ xs) (y ∷ ys) a b e =
    let first : x ≡ y = sym (take_at x (file_of xs) 42 ((a 0 x (omega arith)).size)) ∙ ap (take 42) e
    ∙ take_at y (file_of ys) 42 ((b 0 y (omega arith)).size) in
    let rest : file_of xs ≡ file_of ys = sym (drop_at x (file_of xs) 42 ((a 0 x (omega arith)).size)) ∙ ap (drop 42) e
    ∙ drop_at y (file_of ys) 42 ((b 0 y (omega arith)).size) in
    ap (λ z. z ∷ xs) first ∙ ap (λ zs. y ∷ zs) (same_slots xs ys (λ k d lt. a (suc k) d (omega arith)) (λ k d lt. b (suc k) d (omega arith)) rest)

-- two answers for the same bytes
pub same_ok : {A E : Type 0} (r : Result A E) (x y : A) → r ≡ Ok x → r ≡ Ok y → x ≡ y
same_ok (Ok z) x y e f = let g : Ok z ≡ Ok x = e in let h : Ok z ≡ Ok y = f in let i : z ≡ x = cc in let j : z ≡ y = cc in sym i ∙ j
same_ok (Err z) x y e f = cc
