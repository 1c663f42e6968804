-- The piece of a name in braces, and of a character.
use Rattle.std.proofs.Common.{◌≡◌, ◌∙◌, ℕ, suc, ◌+◌, ◌<◌, Bool, true, false, ◌&&◌, not, List, [], ◌∷◌, ◌++◌, drop, length, replicate, refl, sym, ap}
use Rattle.std.proofs.Common.{arith, Option, Some, None, ◌==◌, eqb, option_map, nat_lt, append_assoc, slice_index, slice_index_or, length-append}
use Rattle.std.specs.List.{list_all, position, position_from}
use Rattle.std.specs.Str.{bytes_eq}
use Rattle.std.proofs.lemmas.Bool.{agree_below, agree_below_at, eqb-true, and_parts, not-true, ltb-true}
use Rattle.std.proofs.lemmas.Iterator.Adapters.{position_from-zero}
use Rattle.std.proofs.lemmas.List.{get_or_append_left, take_at, drop_at}
use Rattle.ttx_author.specs.declared.marks.Mark.TheVariants.{Sign, Control}
use Rattle.ttx_author.specs.declared.marks.Piece.{Piece}
use Rattle.ttx_author.specs.Tags.{names, tag_at, tag_of}
use Rattle.ttx_author.specs.Marks.{placed, piece, tagged, braced, piece_of, marks_from}
use Rattle.ttx_author.specs.Texts.{in_braces}
use Rattle.ttx_author.proofs.Steps.{marks_from-piece}

abbrev name_at : ℕ → List ℕ
name_at index = slice_index_or names index []

abbrev finds : Option ℕ → ℕ → Bool
finds None index = false
finds (Some found) index = eqb found index

-- a name is that of its index alone, is not empty, has no closing brace, and does not begin with a brace
abbrev is_name : ℕ → Bool
is_name index =
    finds (position (λ known. bytes_eq known (name_at index)) names) index
    && list_all (λ c. not (c == 0x7d)) (name_at index) && not (slice_index (name_at index) 0 == 0x7b) && nat_lt 0 (length (name_at index))

names-good : agree_below is_name (λ _. true) 34 ≡ true
unfolding names
names-good = refl

found-same : (found : Option ℕ) (index : ℕ) → finds found index ≡ true → found ≡ Some index
found-same None index e = cc
found-same (Some x) index e = ap Some (eqb-true x index e)

record IsName (index : ℕ) : Type 0 where
  own : position (λ known. bytes_eq known (name_at index)) names ≡ Some index
  closed : list_all (λ c. not (c == 0x7d)) (name_at index) ≡ true
  begun : (slice_index (name_at index) 0 == 0x7b) ≡ false
  some : 0 < length (name_at index)

name-good : (index : ℕ) → index < 34 → IsName index
name-good index inside =
    let all = agree_below_at is_name (λ _. true) 34 index names-good inside in
    let first = and_parts _ (nat_lt 0 (length (name_at index))) all in
    let second = and_parts _ (not (slice_index (name_at index) 0 == 0x7b)) first.0 in
    let third = and_parts (finds (position (λ known. bytes_eq known (name_at index)) names) index) (list_all (λ c. not (c == 0x7d)) (name_at index)) second.0 in
    record {
      own = found-same (position (λ known. bytes_eq known (name_at index)) names) index third.0;
      closed = third.1;
      begun = not-true (slice_index (name_at index) 0 == 0x7b) second.1;
      some = ltb-true 0 (length (name_at index)) first.1;
    }

tag_of-name : (index : ℕ) → index < 34 → tag_of (name_at index) ≡ Some (tag_at index)
unfolding tag_of
tag_of-name index inside = ap (option_map tag_at) ((name-good index inside).own)

-- where the closing brace of a name stands
closing : (n : ℕ) (name tail : List ℕ) → list_all (λ c. not (c == 0x7d)) name ≡ true → position_from (λ c. c == 0x7d) n (name ++ 0x7d ∷ tail) ≡ Some (n + length name)
closing n [] tail e = ap Some (omega arith)
closing n (c ∷ name) tail e =
    let parts = and_parts (not (c == 0x7d)) (list_all (λ c. not (c == 0x7d)) name) e in
    let at : n + 1 + length name ≡ n + suc (length name) = omega arith in
    rw (not-true (c == 0x7d) parts.0) (closing (n + 1) name tail parts.1 ∙ ap Some at)

closing-at : (name tail : List ℕ) → list_all (λ c. not (c == 0x7d)) name ≡ true → position (λ c. c == 0x7d) (name ++ 0x7d ∷ tail) ≡ Some (length name)
closing-at name tail e = position_from-zero (λ c. c == 0x7d) (name ++ 0x7d ∷ tail) ∙ closing 0 name tail e ∙ ap Some (omega arith)

-- the piece of a name in braces
piece_of-name : (index : ℕ) (tail : List ℕ) → index < 34 → piece_of (0x7b ∷ (name_at index ++ 0x7d ∷ tail))
    ≡ piece (Control (tag_at index).code) (tag_at index).cells (length (name_at index) + 2)
unfolding piece_of
piece_of-name index tail inside =
    let good = name-good index inside in
    let first : slice_index (name_at index ++ 0x7d ∷ tail) 0 ≡ slice_index (name_at index) 0 = get_or_append_left (name_at index) (0x7d ∷ tail) 0 0 good.some in
    let begun : (slice_index (name_at index ++ 0x7d ∷ tail) 0 == 0x7b) ≡ false = ap (λ c. c == 0x7b) first ∙ good.begun in
    rw begun
    (ap (braced (name_at index ++ 0x7d ∷ tail)) (closing-at (name_at index) tail good.closed)
    ∙ ap (tagged (length (name_at index))) (ap tag_of (take_at (name_at index) (0x7d ∷ tail) (length (name_at index)) refl) ∙ tag_of-name index inside))

-- its marks
pub marks_from-name : (place index : ℕ) (tail : List ℕ) → index < 34 → (next : ℕ) × (marks_from 0 place (in_braces (slice_index_or names index []) ++ tail)
    ≡ replicate (tag_at index).cells (placed place (Control (tag_at index).code)) ++ marks_from 0 next tail)
marks_from-name place index tail inside =
    let name = name_at index in
    let text = 0x7b ∷ (name ++ 0x7d ∷ tail) in
    let whole : in_braces name ++ tail ≡ text = ap (λ xs. 0x7b ∷ xs) (append_assoc name (0x7d ∷ []) tail) in
    let is : piece_of text ≡ piece (Control (tag_at index).code) (tag_at index).cells (length name + 2) = piece_of-name index tail inside in
    let size : (piece_of text).size ≡ length name + 2 = ap (λ (p : Piece). p.size) is in
    let longer : length name + 2 ≡ suc (length name + 1) = omega arith in
    let rest : drop (length name + 2) text ≡ tail =
    ap (λ n. drop n text) longer ∙ ap (drop (length name + 1)) (sym (append_assoc name (0x7d ∷ []) tail))
    ∙ drop_at (name ++ 0x7d ∷ []) tail (length name + 1) (omega (arith, length-append name (0x7d ∷ []))) in (
      place + (length name + 2),
      ap (marks_from 0 place) whole
          ∙ marks_from-piece place text (omega arith) (omega arith)
          ∙ ap (λ (p : Piece). replicate p.cells (placed place p.mark) ++ marks_from 0 (place + p.size) (drop p.size text)) is
          ∙ ap (λ xs. replicate (tag_at index).cells (placed place (Control (tag_at index).code)) ++ marks_from 0 (place + (length name + 2)) xs) rest,
    )

-- the mark of a character that is no brace
pub marks_from-character : (place c : ℕ) (tail : List ℕ) → (c == 0x7b) ≡ false → marks_from 0 place (c ∷ tail) ≡ placed place (Sign c) ∷ marks_from 0 (place + 1) tail
unfolding piece_of
marks_from-character place c tail other =
    let is : piece_of (c ∷ tail) ≡ piece (Sign c) 1 1 = rw other refl in
    let size : (piece_of (c ∷ tail)).size ≡ 1 = ap (λ (p : Piece). p.size) is in
    marks_from-piece place (c ∷ tail) (omega arith) (omega arith)
    ∙ ap (λ (p : Piece). replicate p.cells (placed place p.mark) ++ marks_from 0 (place + p.size) (drop p.size (c ∷ tail))) is
