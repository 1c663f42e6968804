-- Marks from one piece to the next, and codes from one mark to the next.
use Rattle.std.proofs.Common.{◌≡◌, ◌∙◌, ℕ, zero, suc, ◌+◌, ◌-◌, ◌<◌, ◌≤◌, Bool, List, [], ◌∷◌, ◌++◌, drop, take, replicate, length, refl, sym, ap, arith, append_assoc}
use Rattle.std.proofs.Common.{Result, Ok, Err, length-drop}
use Rattle.std.proofs.lemmas.List.{drop-drop, drop_all, take_all, append-nil}
use Rattle.ttx_author.specs.Marks.{Placed, placed, piece_of, marks_from}
use Rattle.ttx_author.specs.declared.marks.Piece.{Piece}
use Rattle.ttx_author.specs.declared.rows.Lack.{Lack}
use Rattle.ttx_author.specs.Rows.{◌>>=◌, lack_at, code_at, codes_of, mode_after, continued}
use Rattle.ttx_author.specs.declared.rows.Why.TheVariants.{Room}

-- skipped characters are those of the text that stand before the rest
pub marks_from-skip : (skip place : ℕ) (text : List ℕ) → marks_from skip place text ≡ marks_from 0 (place + skip) (drop skip text)
unfolding marks_from
marks_from-skip zero place text = ap (λ n. marks_from 0 n text) (omega arith)
marks_from-skip (suc skip) place [] = refl
marks_from-skip (suc skip) place (c ∷ rest) =
    let next : place + 1 + skip ≡ place + suc skip = omega arith in
    marks_from-skip skip (place + 1) rest ∙ ap (λ n. marks_from 0 n (drop skip rest)) next

-- the marks of a text that is not empty: those of its first piece, and those of the rest
pub marks_from-piece : (place : ℕ) (text : List ℕ) → 0 < length text → 1 ≤ (piece_of text).size → marks_from 0 place text
    ≡ replicate (piece_of text).cells (placed place (piece_of text).mark) ++ marks_from 0 (place + (piece_of text).size) (drop (piece_of text).size text)
unfolding marks_from
marks_from-piece place [] some size = absurd (omega arith)
marks_from-piece place (c ∷ rest) some size =
    let whole : 1 + ((piece_of (c ∷ rest)).size - 1) ≡ (piece_of (c ∷ rest)).size = omega arith in
    let at : place + 1 + ((piece_of (c ∷ rest)).size - 1) ≡ place + (piece_of (c ∷ rest)).size = omega arith in
    let cut : drop ((piece_of (c ∷ rest)).size - 1) rest ≡ drop (piece_of (c ∷ rest)).size (c ∷ rest) =
    after ((piece_of (c ∷ rest)).size - 1) ∙ ap (λ n. drop n (c ∷ rest)) (whole) in
    ap (λ ms. replicate (piece_of (c ∷ rest)).cells (placed place (piece_of (c ∷ rest)).mark) ++ ms)
    (marks_from-skip ((piece_of (c ∷ rest)).size - 1) (place + 1) rest
    ∙ ap (λ n. marks_from 0 n (drop ((piece_of (c ∷ rest)).size - 1) rest)) at
    ∙ ap (marks_from 0 (place + (piece_of (c ∷ rest)).size)) cut)
  where
    after : (n : ℕ) → drop n rest ≡ drop (1 + n) (c ∷ rest)
    after n = let e : 1 + n ≡ suc n = omega arith in rw e refl

-- codes that stand before those of an outcome
put-before : (front : List ℕ) (code : ℕ) (outcome : Result (List ℕ) Lack)
    → ((outcome >>= (λ codes. Ok (code ∷ codes))) >>= (λ codes. Ok (front ++ codes))) ≡ (outcome >>= (λ codes. Ok ((front ++ code ∷ []) ++ codes)))
put-before front code (Ok codes) = ap Ok (sym (append_assoc front (code ∷ []) codes))
put-before front code (Err lack) = refl

-- a mark that has a code
pub continued-more : (option room n : ℕ) (mosaic : Bool) (front : List ℕ) (m : Placed) (ms : List Placed) (code : ℕ) → room ≡ suc n
    → code_at option mosaic m.place m.mark ≡ Ok code
    → continued option mosaic room front (m ∷ ms) ≡ continued option (mode_after code mosaic) n (front ++ code ∷ []) ms
unfolding codes_of
continued-more option room n mosaic front m ms code more has =
    rw (more, has) (put-before front code (codes_of option (mode_after code mosaic) n ms))

-- a mark that has none
pub continued-fault : (option room n : ℕ) (mosaic : Bool) (front : List ℕ) (m : Placed) (ms : List Placed) (lack : Lack) → room ≡ suc n
    → code_at option mosaic m.place m.mark ≡ Err lack → continued option mosaic room front (m ∷ ms) ≡ Err lack
unfolding codes_of
continued-fault option room n mosaic front m ms lack more has = rw (more, has) refl

-- a mark for which no cell is left
pub continued-full : (option room : ℕ) (mosaic : Bool) (front : List ℕ) (m : Placed) (ms : List Placed) → room ≡ 0
    → continued option mosaic room front (m ∷ ms) ≡ Err (lack_at m.place Room)
unfolding codes_of
continued-full option room mosaic front m ms full = rw full refl

-- no mark is left
pub continued-end : (option room : ℕ) (mosaic : Bool) (front : List ℕ) → continued option mosaic room front [] ≡ Ok front
unfolding codes_of
continued-end option room mosaic front = simp append-nil

-- the first of some equal marks
pub one-cell : (n i : ℕ) (m : Placed) (ms : List Placed) → i < n → replicate (n - i) m ++ ms ≡ m ∷ (replicate (n - (i + 1)) m ++ ms)
one-cell n i m ms some = let e : n - i ≡ suc (n - (i + 1)) = omega arith in rw e refl

-- the same at a place in a text
pub marks_from-turn : (place : ℕ) (text : List ℕ) (piece : Piece) → place < length text → piece ≡ piece_of (take (length text - place) (drop place text)) → 1 ≤ piece.size
    → marks_from 0 place (drop place text)
    ≡ replicate piece.cells (placed place piece.mark) ++ marks_from 0 (place + piece.size) (drop (place + piece.size) text)
marks_from-turn place text piece inside sliced size =
    let rest : take (length text - place) (drop place text) ≡ drop place text = take_all (length text - place) (drop place text) (omega (arith, length-drop place text)) in
    let is = sliced ∙ ap piece_of rest in
    let some : 0 < length (drop place text) = omega (arith, length-drop place text) in
    let size' : 1 ≤ (piece_of (drop place text)).size = rw (← is) size in
    marks_from-piece place (drop place text) some size'
    ∙ ap (λ (p : Piece). replicate p.cells (placed place p.mark) ++ marks_from 0 (place + p.size) (drop p.size (drop place text))) (sym is)
    ∙ ap (λ rest. replicate piece.cells (placed place piece.mark) ++ marks_from 0 (place + piece.size) rest) (drop-drop piece.size place text)

-- no mark is left behind the end
pub marks_from-end : (place n : ℕ) (text : List ℕ) → length text ≤ n → marks_from 0 place (drop n text) ≡ []
unfolding marks_from
marks_from-end place n text all = rw (drop_all n text all) refl
