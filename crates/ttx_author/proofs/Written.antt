-- The control codes that an author writes are below 20.
use Rattle.std.proofs.Common.{◌≡◌, ℕ, zero, suc, ◌+◌, ◌-◌, ◌<◌, Bool, true, false, List, [], ◌∷◌, ◌++◌, take, length, replicate, refl, arith, inl, inr, subst}
use Rattle.std.proofs.Common.{Option, Some, None, option_map, if◌then◌else◌, ◌==◌, slice_index, nat_lt}
use Rattle.std.specs.List.{position}
use Rattle.std.specs.Str.{bytes_eq}
use Rattle.std.proofs.lemmas.Bool.{cases_Bool, ltb-true}
use Rattle.std.proofs.lemmas.List.Quantifiers.{position-Some}
use Rattle.ttx_author.specs.declared.marks.Mark.{Mark}
use Rattle.ttx_author.specs.declared.marks.Mark.TheVariants.{Sign, Control, Stray}
use Rattle.ttx_author.specs.declared.marks.Piece.{Piece}
use Rattle.ttx_author.specs.declared.tags.Tag.{Tag}
use Rattle.ttx_author.specs.Tags.{names, tag_at, tag_of}
use Rattle.ttx_author.specs.Marks.{Placed, placed, piece, tagged, braced, piece_of, marks_from}
use Rattle.ttx_author.proofs.Codes.{nth_mark}

-- a control code is below 20
abbrev pub IsWritten : Mark → Type 0
IsWritten (Sign character) = Unit {0}
IsWritten (Control code) = code < 0x20
IsWritten Stray = Unit {0}

tag_at-below : (index : ℕ) → index < 34 → (tag_at index).code < 0x20
tag_at-below index inside =
    elim (cases_Bool (nat_lt index 32)) [
      | inl single ↦ rw single (ltb-true index 32 single)
      | inr box ↦ rw box (omega arith)
    ]

pub names-count : length names ≡ 34
unfolding names
names-count = refl

mapped-below : (found : Option ℕ) (tag : Tag) → ((index : ℕ) → found ≡ Some index → index < 34) → option_map tag_at found ≡ Some tag → tag.code < 0x20
mapped-below None tag inside e = cc
mapped-below (Some index) tag inside e =
    let same : tag_at index ≡ tag = some-same e in
    subst (λ (t : Tag). t.code < 0x20) same (tag_at-below index (inside index refl))
  where
    some-same : Some (tag_at index) ≡ Some tag → tag_at index ≡ tag
    some-same e = cc

pub tag_of-below : (name : List ℕ) (tag : Tag) → tag_of name ≡ Some tag → tag.code < 0x20
unfolding tag_of
tag_of-below name tag e =
    mapped-below (position (λ known. bytes_eq known name) names) tag
    (λ index at. subst (λ n. index < n) names-count ((position-Some (λ known. bytes_eq known name) names index [] at).0)) e

tagged-below : (end : ℕ) (found : Option Tag) → ((tag : Tag) → found ≡ Some tag → tag.code < 0x20) → IsWritten (tagged end found).mark
tagged-below end None below = tt
tagged-below end (Some tag) below = below tag refl

braced-below : (rest : List ℕ) (end : Option ℕ) → IsWritten (braced rest end).mark
braced-below rest None = tt
braced-below rest (Some end) = tagged-below end (tag_of (take end rest)) (tag_of-below (take end rest))

either : (a b : Bool) (x y z : Piece) → IsWritten x.mark → IsWritten y.mark → IsWritten z.mark → IsWritten (if a then (if b then x else y) else z).mark
either true true x y z p q r = p
either true false x y z p q r = q
either false b x y z p q r = r

piece_of-below : (text : List ℕ) → IsWritten (piece_of text).mark
unfolding piece_of
piece_of-below [] = tt
piece_of-below (c ∷ rest) =
    either (c == 0x7b) (slice_index rest 0 == 0x7b) (piece (Sign c) 1 2) (braced rest (position (λ d. d == 0x7d) rest)) (piece (Sign c) 1 1)
    tt (braced-below rest (position (λ d. d == 0x7d) rest)) tt

nth-repeated : (n : ℕ) (m : Placed) (ms : List Placed) (c : ℕ) → IsWritten m.mark → ((d : ℕ) → IsWritten (nth_mark ms d)) → IsWritten (nth_mark (replicate n m ++ ms) c)
nth-repeated zero m ms c here rest = rest c
nth-repeated (suc n) m ms zero here rest = here
nth-repeated (suc n) m ms (suc c) here rest = nth-repeated n m ms c here rest

pub marks_from-below : (skip place : ℕ) (text : List ℕ) (c : ℕ) → IsWritten (nth_mark (marks_from skip place text) c)
unfolding marks_from
marks_from-below skip place [] c = tt
marks_from-below (suc skip) place (d ∷ rest) c = marks_from-below skip (place + 1) rest c
marks_from-below zero place (d ∷ rest) c =
    nth-repeated (piece_of (d ∷ rest)).cells (placed place (piece_of (d ∷ rest)).mark) (marks_from ((piece_of (d ∷ rest)).size - 1) (place + 1) rest) c
    (piece_of-below (d ∷ rest)) (marks_from-below ((piece_of (d ∷ rest)).size - 1) (place + 1) rest)
