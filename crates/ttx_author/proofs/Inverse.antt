-- The text of a row means the row.
use Rattle.std.proofs.Common.{◌≡◌, ◌∙◌, ℕ, zero, suc, ◌+◌, ◌-◌, ◌<◌, ◌≤◌, ◌⊎◌, Bool, true, false, ◌&&◌, ◌||◌, List, [], ◌∷◌, ◌++◌, take, drop, get_or, length, replicate, refl, sym, ap}
use Rattle.std.proofs.Common.{arith, inl, inr, Result, Ok, Err, ◌==◌, nat_lt, slice_index_or}
use Rattle.std.proofs.lemmas.Bool.{cases_Bool, and_parts, or_cases, eqb-true, ltb-true, ltb-false}
use Rattle.std.proofs.Common.{◌%◌, map, length-drop, get_or-drop}
use Rattle.std.proofs.lemmas.List.{append-nil, take_all, drop-drop}
use Rattle.ttx_render.specs.Spacing.{spacing_of}
use Rattle.ttx_author.specs.declared.marks.Mark.TheVariants.{Sign, Control}
use Rattle.ttx_author.specs.declared.rows.Lack.{Lack}
use Rattle.ttx_author.specs.Signs.{sign}
use Rattle.ttx_author.specs.Tags.{names, tag_at}
use Rattle.ttx_author.specs.Marks.{Placed, placed, marks_from}
use Rattle.ttx_author.specs.Rows as rows
use Rattle.ttx_author.specs.Rows.{◌>>=◌, codes_of, mode_after, filled, line_of}
use Rattle.ttx_author.specs.Texts.{in_braces, one, is_box, starts_box, written, are_spaces, before_spaces, text_of}
use Rattle.ttx_author.proofs.Braces.{marks_from-name, marks_from-character}
use Rattle.ttx_author.proofs.Standing.{sign-stands}

-- every code is below 80
abbrev pub AreCodes : List ℕ → Type 0
AreCodes codes = (c : ℕ) → get_or codes c 0 < 128

-- codes_of at a mark whose code is known
first-code : (option room : ℕ) (mosaic : Bool) (m : Placed) (ms : List Placed) (code : ℕ) → rows.code_at option mosaic m.place m.mark ≡ Ok code
    → codes_of option mosaic (suc room) (m ∷ ms) ≡ (codes_of option (mode_after code mosaic) room ms >>= (λ codes. Ok (code ∷ codes)))
unfolding codes_of
first-code option room mosaic m ms code e = rw e refl

-- what is written for a code means this code
one-means : (option place room : ℕ) (mosaic : Bool) (code : ℕ) (tail : List ℕ) → option < 8 → code < 128 → (next : ℕ)
    × (codes_of option mosaic (suc room) (marks_from 0 place (one option mosaic code ++ tail))
    ≡ (codes_of option (mode_after code mosaic) room (marks_from 0 next tail) >>= (λ codes. Ok (code ∷ codes))))
one-means option place room mosaic code tail o high =
    elim (cases_Bool (nat_lt code 0x20)) [
      | inl control ↦
          let low : code < 0x20 = ltb-true code 0x20 control in
          let single : nat_lt code 32 ≡ true = control in
          let found = marks_from-name place code tail (omega arith) in
          let marks : marks_from 0 place (in_braces (slice_index_or names code []) ++ tail) ≡ placed place (Control code) ∷ marks_from 0 found.0 tail =
          found.1 ∙ rw single refl in (
            found.0,
            rw control
                (ap (codes_of option mosaic (suc room)) marks
                ∙ first-code option room mosaic (placed place (Control code)) (marks_from 0 found.0 tail) code refl),
          )
      | inr printed ↦
          let stands = sign-stands mosaic option code o (ltb-false code 0x20 printed) high in (
            place + 1,
            rw printed
                (ap (codes_of option mosaic (suc room)) (marks_from-character place (sign mosaic option code) tail stands.1)
                ∙ first-code option room mosaic (placed place (Sign (sign mosaic option code))) (marks_from 0 (place + 1) tail) code
                (ap (rows.shown_by (rows.lack_at place (rows.why_not option mosaic (sign mosaic option code)))) stands.0)),
          )
    ]

-- the two codes of a box
box-mode : (code : ℕ) (mosaic : Bool) → (code ≡ 0x0a) ⊎ (code ≡ 0x0b) → mode_after code mosaic ≡ mosaic
unfolding spacing_of
box-mode code mosaic (inl e) = ap (λ n. mode_after n mosaic) e
box-mode code mosaic (inr e) = ap (λ n. mode_after n mosaic) e

put-two : (code : ℕ) (outcome : Result (List ℕ) Lack)
    → ((outcome >>= (λ codes. Ok (code ∷ codes))) >>= (λ codes. Ok (code ∷ codes))) ≡ (outcome >>= (λ codes. Ok (code ∷ code ∷ codes)))
put-two code (Ok codes) = refl
put-two code (Err lack) = refl

box-at : (code index : ℕ) → code + 22 ≡ index → (code ≡ 0x0a) ⊎ (code ≡ 0x0b) → ((tag_at index).code ≡ code) × ((tag_at index).cells ≡ 2) × (index < 34)
box-at code index at (inl e) =
    let i : 32 ≡ index = ap (λ n. n + 22) (sym e) ∙ at in
    (ap (λ n. (tag_at n).code) (sym i) ∙ sym e, ap (λ n. (tag_at n).cells) (sym i), omega arith)
box-at code index at (inr e) =
    let i : 33 ≡ index = ap (λ n. n + 22) (sym e) ∙ at in
    (ap (λ n. (tag_at n).code) (sym i) ∙ sym e, ap (λ n. (tag_at n).cells) (sym i), omega arith)

box-means : (option place room : ℕ) (mosaic : Bool) (code : ℕ) (tail : List ℕ) → (code ≡ 0x0a) ⊎ (code ≡ 0x0b) → (next : ℕ)
    × (codes_of option mosaic (suc (suc room)) (marks_from 0 place (in_braces (slice_index_or names (code + 22) []) ++ tail))
    ≡ (codes_of option mosaic room (marks_from 0 next tail) >>= (λ codes. Ok (code ∷ code ∷ codes))))
box-means option place room mosaic code tail box =
    let at = box-at code (code + 22) refl box in
    let found = marks_from-name place (code + 22) tail at.2 in
    let m = placed place (Control code) in
    let rest = marks_from 0 found.0 tail in
    let marks : marks_from 0 place (in_braces (slice_index_or names (code + 22) []) ++ tail) ≡ m ∷ (m ∷ rest) =
    found.1
    ∙ ap (λ n. replicate n (placed place (Control (tag_at (code + 22)).code)) ++ rest) at.1
    ∙ ap (λ k. replicate 2 (placed place (Control k)) ++ rest) at.0 in (
      found.0,
      ap (codes_of option mosaic (suc (suc room))) marks
          ∙ first-code option (suc room) mosaic m (m ∷ rest) code refl
          ∙ ap (λ mode. codes_of option mode (suc room) (m ∷ rest) >>= (λ codes. Ok (code ∷ codes))) (box-mode code mosaic box)
          ∙ ap (λ outcome. outcome >>= (λ codes. Ok (code ∷ codes))) (first-code option room mosaic m rest code refl)
          ∙ ap (λ mode. (codes_of option mode room rest >>= (λ codes. Ok (code ∷ codes))) >>= (λ codes. Ok (code ∷ codes))) (box-mode code mosaic box)
          ∙ put-two code (codes_of option mosaic room rest),
    )

box-codes : (code next : ℕ) → is_box code next ≡ true → (next ≡ code) × ((code ≡ 0x0a) ⊎ (code ≡ 0x0b))
box-codes code next e =
    let parts = and_parts (code == next) (code == 0x0a || code == 0x0b) e in (
      sym (eqb-true code next parts.0),
      elim (or_cases (code == 0x0a) (code == 0x0b) parts.1) [
        | inl a ↦ inl (eqb-true code 0x0a a)
        | inr b ↦ inr (eqb-true code 0x0b b)
      ],
    )

-- what is written for codes means these codes
pub written-means : (option place room : ℕ) (mosaic : Bool) (codes : List ℕ) → option < 8 → AreCodes codes → length codes ≤ room
    → codes_of option mosaic room (marks_from 0 place (written option mosaic codes)) ≡ Ok codes
unfolding written codes_of marks_from
written-means option place room mosaic [] o all fits = refl
written-means option place zero mosaic (code ∷ []) o all fits = absurd (omega arith)
written-means option place (suc room) mosaic (code ∷ []) o all fits =
    let first = one-means option place room mosaic code [] o (all 0) in
    ap (λ text. codes_of option mosaic (suc room) (marks_from 0 place text)) (sym (append-nil (one option mosaic code))) ∙ first.1
written-means option place zero mosaic (code ∷ next ∷ rest) o all fits = absurd (omega arith)
written-means option place (suc zero) mosaic (code ∷ next ∷ rest) o all fits = absurd (omega arith)
written-means option place (suc (suc room)) mosaic (code ∷ next ∷ rest) o all fits =
    elim (cases_Bool (is_box code next)) [
      | inl box ↦
          let pair = box-codes code next box in
          let first = box-means option place room mosaic code (written option mosaic rest) pair.1 in
          rw box
          (first.1
          ∙ ap (λ outcome. outcome >>= (λ codes. Ok (code ∷ code ∷ codes)))
          (written-means option first.0 room mosaic rest o (λ c. all (suc (suc c))) (omega arith))
          ∙ ap (λ n. Ok (code ∷ n ∷ rest)) (sym pair.0))
      | inr other ↦
          let first = one-means option place (suc room) mosaic code (written option (mode_after code mosaic) (next ∷ rest)) o (all 0) in
          rw other
          (first.1
          ∙ ap (λ outcome. outcome >>= (λ codes. Ok (code ∷ codes)))
          (written-means option first.0 (suc room) (mode_after code mosaic) (next ∷ rest) o (λ c. all (suc c)) (omega arith)))
    ]

-- spaces at the end

spaces-same : (codes : List ℕ) → are_spaces codes ≡ true → codes ≡ replicate (length codes) 0x20
spaces-same [] e = refl
spaces-same (code ∷ codes) e =
    let parts = and_parts (code == 0x20) (are_spaces codes) e in
    ap (λ n. n ∷ codes) (eqb-true code 0x20 parts.0) ∙ ap (λ xs. 0x20 ∷ xs) (spaces-same codes parts.1)

pub before_spaces-filled : (codes : List ℕ) → filled (length codes) (before_spaces codes) ≡ codes
unfolding before_spaces
before_spaces-filled [] = refl
before_spaces-filled (code ∷ codes) =
    elim (cases_Bool (are_spaces (code ∷ codes))) [
      | inl spaces ↦
          let n : suc (length codes) - 0 ≡ suc (length codes) = omega arith in
          rw spaces (ap (λ k. replicate k 0x20) n ∙ sym (spaces-same (code ∷ codes) spaces))
      | inr some ↦
          let n : suc (length codes) - suc (length (before_spaces codes)) ≡ length codes - length (before_spaces codes) = omega arith in
          rw some (ap (λ k. code ∷ (before_spaces codes ++ replicate k 0x20)) n ∙ ap (λ xs. code ∷ xs) (before_spaces-filled codes))
    ]

first-and-rest : (code : ℕ) (codes : List ℕ) → code < 128 → AreCodes codes → AreCodes (code ∷ codes)
first-and-rest code codes first rest zero = first
first-and-rest code codes first rest (suc c) = rest c

before_spaces-code : (codes : List ℕ) → AreCodes codes → AreCodes (before_spaces codes)
unfolding before_spaces
before_spaces-code [] all c = all c
before_spaces-code (code ∷ codes) all c =
    elim (cases_Bool (are_spaces (code ∷ codes))) [
      | inl spaces ↦ rw spaces (let none : 0 < 128 = omega arith in none)
      | inr some ↦ rw some (first-and-rest code (before_spaces codes) (all 0) (before_spaces-code codes (λ d. all (suc d))) c)
    ]

before_spaces-length : (codes : List ℕ) → length (before_spaces codes) ≤ length codes
unfolding before_spaces
before_spaces-length [] = omega arith
before_spaces-length (code ∷ codes) =
    let shorter = before_spaces-length codes in
    elim (cases_Bool (are_spaces (code ∷ codes))) [
      | inl spaces ↦ rw spaces (omega arith)
      | inr some ↦ rw some (omega arith)
    ]

-- the text of a row means the row
pub text-means : (option : ℕ) (codes : List ℕ) → option < 8 → AreCodes codes → line_of (length codes) option (text_of option codes) ≡ Ok codes
text-means option codes o all =
    ap (λ outcome. outcome >>= (λ found. Ok (filled (length codes) found)))
    (written-means option 0 (length codes) false (before_spaces codes) o (before_spaces-code codes all) (before_spaces-length codes))
    ∙ ap Ok (before_spaces-filled codes)

-- steps from the end

are_spaces-more : (front : List ℕ) → are_spaces (front ++ 0x20 ∷ []) ≡ are_spaces front
are_spaces-more [] = refl
are_spaces-more (code ∷ front) = ap (λ b. (code == 0x20) && b) (are_spaces-more front)

are_spaces-other : (front : List ℕ) (code : ℕ) → (code == 0x20) ≡ false → are_spaces (front ++ code ∷ []) ≡ false
are_spaces-other [] code other = rw other refl
are_spaces-other (first ∷ front) code other =
    elim (cases_Bool (first == 0x20)) [
      | inl space ↦ rw space (are_spaces-other front code other)
      | inr letter ↦ rw letter refl
    ]

pub before_spaces-more : (front : List ℕ) → before_spaces (front ++ 0x20 ∷ []) ≡ before_spaces front
unfolding before_spaces
before_spaces-more [] = refl
before_spaces-more (code ∷ front) =
    let same : are_spaces (code ∷ (front ++ 0x20 ∷ [])) ≡ are_spaces (code ∷ front) = are_spaces-more (code ∷ front) in
    elim (cases_Bool (are_spaces (code ∷ front))) [
      | inl spaces ↦ let both = same ∙ spaces in rw (both, spaces) refl
      | inr some ↦ let both = same ∙ some in rw (both, some) (ap (λ codes. code ∷ codes) (before_spaces-more front))
    ]

pub before_spaces-other : (front : List ℕ) (code : ℕ) → (code == 0x20) ≡ false → before_spaces (front ++ code ∷ []) ≡ front ++ code ∷ []
unfolding before_spaces
before_spaces-other [] code other = rw other refl
before_spaces-other (first ∷ front) code other =
    rw (are_spaces-other (first ∷ front) code other) (ap (λ codes. first ∷ codes) (before_spaces-other front code other))

-- steps of the text

pub written-box : (option : ℕ) (mosaic : Bool) (codes : List ℕ) → starts_box codes ≡ true → (2 ≤ length codes)
    × (get_or codes 0 0 < 12)
    × (written option mosaic codes ≡ in_braces (slice_index_or names (get_or codes 0 0 + 22) []) ++ written option mosaic (drop 2 codes))
unfolding written
written-box option mosaic [] e = cc
written-box option mosaic (code ∷ []) e = cc
written-box option mosaic (code ∷ next ∷ rest) e =
    let low : code < 12 = elim ((box-codes code next e).1) [ inl a ↦ omega arith | inr b ↦ omega arith ] in
    (omega arith, low, rw e refl)

pub written-one : (option : ℕ) (mosaic : Bool) (codes : List ℕ) → 0 < length codes → starts_box codes ≡ false →
    written option mosaic codes ≡ one option mosaic (get_or codes 0 0) ++ written option (mode_after (get_or codes 0 0) mosaic) (drop 1 codes)
unfolding written
written-one option mosaic [] some e = absurd (omega arith)
written-one option mosaic (code ∷ []) some e = sym (append-nil (one option mosaic code))
written-one option mosaic (code ∷ next ∷ rest) some e = rw e refl

pub written-end : (option : ℕ) (mosaic : Bool) (codes : List ℕ) → length codes ≡ 0 → written option mosaic codes ≡ []
unfolding written
written-end option mosaic [] none = refl
written-end option mosaic (code ∷ codes) none = absurd (omega arith)

pub before_spaces-none : before_spaces [] ≡ []
unfolding before_spaces
before_spaces-none = refl

-- the rest of codes as a slice reads it
pub rest-of : (codes : List ℕ) (at : ℕ) → take (length codes - at) (drop at codes) ≡ drop at codes
rest-of codes at = take_all (length codes - at) (drop at codes) (omega (arith, length-drop at codes))

pub drop-one : (codes : List ℕ) (at n : ℕ) → drop n (drop at codes) ≡ drop (at + n) codes
drop-one codes at n = drop-drop n at codes

pub first-of : (codes : List ℕ) (at : ℕ) → get_or (drop at codes) 0 0 ≡ get_or codes at 0
first-of codes at = get_or-drop at codes 0 0 ∙ ap (λ n. get_or codes n 0) (omega arith)

-- codes without their parity bits are below 80
pub without_parity-codes : (row : List ℕ) → AreCodes (map (λ code. code % 128) row)
without_parity-codes [] c = omega arith
without_parity-codes (code ∷ row) zero = omega arith
without_parity-codes (code ∷ row) (suc c) = without_parity-codes row c

pub take-codes : (n : ℕ) (codes : List ℕ) → AreCodes codes → AreCodes (take n codes)
take-codes zero codes all c = omega arith
take-codes (suc n) [] all c = omega arith
take-codes (suc n) (code ∷ codes) all zero = all 0
take-codes (suc n) (code ∷ codes) all (suc c) = take-codes n codes (λ d. all (suc d)) c
