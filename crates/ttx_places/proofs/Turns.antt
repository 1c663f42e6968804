-- The program's readers agree with the definitions, step by step.
use Rattle.std.proofs.Common.{◌≡◌, ℕ, zero, suc, ◌+◌, ◌-◌, ◌<◌, true, false, ◌==◌, List, [], ◌∷◌, length, drop, Option, Some, None, refl, arith}
use Rattle.std.specs.Fmt.{decimal}
use Rattle.toml_parser.specs.Lexical.{Read, first, skip_blank}
use Rattle.toml.specs.Parse.{after_element}
use Rattle.ttx_places.specs.Paths.{below}
use Rattle.ttx_places.specs.Places.{Place, Tables, first_of, here, or_later, after_place, plain, pair, elements, members, value, line, lines}

pub elements_end : (value : List ℕ → List ℕ → Read Place) (m number : ℕ) (path : List ℕ) (found : Place) (text : List ℕ) → 0 < m
    → (first (skip_blank text) == 93) ≡ true → elements value m number path found text ≡ Some (found, drop 1 (skip_blank text))
unfolding elements
elements_end value zero number path found text some closing = absurd (omega arith)
elements_end value (suc m) number path found text some closing = rw closing

pub elements_more : (value : List ℕ → List ℕ → Read Place) (m number : ℕ) (path : List ℕ) (found : Place) (text : List ℕ) (d : Place) (after next : List ℕ)
    → 0 < m → (first (skip_blank text) == 93) ≡ false → value (below path (decimal number)) (skip_blank text) ≡ Some (d, after)
    → after_element 93 after ≡ Some next → elements value m number path found text ≡ elements value (m - 1) (number + 1) path (first_of found d) next
unfolding elements
elements_more value zero number path found text d after next some other read element = absurd (omega arith)
elements_more value (suc m) number path found text d after next some other read element =
    let less : suc m - 1 ≡ m = omega arith in
    rw (other, read, element, less)

pub members_end : (value : List ℕ → List ℕ → Read Place) (m : ℕ) (path : List ℕ) (found : Place) (text : List ℕ) → 0 < m
    → (first (skip_blank text) == 125) ≡ true → members value m path found text ≡ Some (found, drop 1 (skip_blank text))
unfolding members
members_end value zero path found text some closing = absurd (omega arith)
members_end value (suc m) path found text some closing = rw closing

pub members_more : (value : List ℕ → List ℕ → Read Place) (m : ℕ) (path : List ℕ) (found : Place) (text : List ℕ) (d : Place) (after next : List ℕ)
    → 0 < m → (first (skip_blank text) == 125) ≡ false → pair value path (skip_blank text) ≡ Some (d, after)
    → after_element 125 after ≡ Some next → members value m path found text ≡ members value (m - 1) path (first_of found d) next
unfolding members
members_more value zero path found text d after next some other read element = absurd (omega arith)
members_more value (suc m) path found text d after next some other read element =
    let less : suc m - 1 ≡ m = omega arith in
    rw (other, read, element, less)

pub value_plain : (target : List ℕ) (depth : ℕ) (path text : List ℕ) → (first text == 91) ≡ false → (first text == 123) ≡ false
    → value target depth path text ≡ plain target path text
unfolding value
value_plain target zero path text a b = refl
value_plain target (suc depth) path text a b = rw (a, b)

pub value_array : (target : List ℕ) (depth : ℕ) (path text : List ℕ) → 0 < depth → (first text == 91) ≡ true
    → value target depth path text ≡ after_place (here target path text) (elements (value target (depth - 1)) (length text) 1 path None (drop 1 text))
unfolding value
value_array target zero path text some a = absurd (omega arith)
value_array target (suc depth) path text some a =
    let less : suc depth - 1 ≡ depth = omega arith in
    rw (a, less)

pub value_table : (target : List ℕ) (depth : ℕ) (path text : List ℕ) → 0 < depth → (first text == 91) ≡ false → (first text == 123) ≡ true
    → value target depth path text ≡ after_place (here target path text) (members (value target (depth - 1)) (length text) path None (drop 1 text))
unfolding value
value_table target zero path text some a b = absurd (omega arith)
value_table target (suc depth) path text some a b =
    let less : suc depth - 1 ≡ depth = omega arith in
    rw (a, b, less)

pub lines_end : (target : List ℕ) (m : ℕ) (tables : Tables) (text : List ℕ) → 0 < m → length (skip_blank text) ≡ 0
    → lines target m tables text ≡ Some None
unfolding lines
lines_end target zero tables text some none = absurd (omega arith)
lines_end target (suc m) tables text some none = rw none

pub lines_more : (target : List ℕ) (m : ℕ) (tables next : Tables) (text : List ℕ) (place : Place) (after : List ℕ) → 0 < m
    → (length (skip_blank text) == 0) ≡ false → line target tables (skip_blank text) ≡ Some ((place, next), after)
    → lines target m tables text ≡ or_later place (lines target (m - 1) next after)
unfolding lines
lines_more target zero tables next text place after some other read = absurd (omega arith)
lines_more target (suc m) tables next text place after some other read =
    let less : suc m - 1 ≡ m = omega arith in
    rw (other, read, less)
