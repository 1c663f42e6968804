-- The code of each mark.
use Rattle.std.proofs.Common.{◌≡◌, ◌∙◌, ℕ, zero, suc, ◌+◌, ◌<◌, ◌≤◌, Bool, true, List, [], ◌∷◌, take, get_or, length, map, refl, sym, ap, arith, inl, inr, subst}
use Rattle.std.proofs.Common.{Result, Ok, Err, Option, Some, None, ◌==◌}
use Rattle.std.specs.List.{find, range_with_len}
use Rattle.std.proofs.lemmas.Bool.{cases_Bool, eqb-true}
use Rattle.ttx_author.specs.declared.marks.Mark.{Mark}
use Rattle.ttx_author.specs.declared.marks.Mark.TheVariants.{Sign}
use Rattle.ttx_author.specs.declared.rows.Lack.{Lack}
use Rattle.ttx_author.specs.Signs.{sign, code_of}
use Rattle.ttx_author.specs.Marks.{Placed}
use Rattle.ttx_author.specs.Rows.{◌>>=◌, shown_by, code_at, codes_of, mode_after}
use Rattle.ttx_author.proofs.Modes.{mode_left}

-- the steps of a result that is Ok
pub bound : {A B : Type 0} (x : Result A Lack) (f : A → Result B Lack) (y : B) → (x >>= f) ≡ Ok y → (a : A) × (x ≡ Ok a) × (f a ≡ Ok y)
bound (Ok a) f y e = (a, refl, e)
bound (Err lack) f y e = cc

pub same-ok : {A : Type 0} (x y : A) → (let r : Result A Lack = Ok x in r ≡ Ok y) → x ≡ y
same-ok x y e = cc

-- the mark at a place among marks
abbrev pub nth_mark : List Placed → ℕ → Mark
nth_mark marks c = get_or (map (λ (m : Placed). m.mark) marks) c (Sign 0x20)

-- each code is that of its mark, in the mode that the codes before it leave
pub codes_of-at : (option room : ℕ) (mosaic : Bool) (marks : List Placed) (codes : List ℕ) (c : ℕ) → codes_of option mosaic room marks ≡ Ok codes → c < length codes
    → (place : ℕ) × (code_at option (mode_left (take c codes) mosaic) place (nth_mark marks c) ≡ Ok (get_or codes c 0))
unfolding codes_of
codes_of-at option room mosaic [] codes c e inside =
    let none : codes ≡ [] = sym (same-ok [] codes e) in
    absurd (omega (arith, ap length none))
codes_of-at option zero mosaic (m ∷ ms) codes c e inside = cc
codes_of-at option (suc room) mosaic (m ∷ ms) codes zero e inside =
    let a = bound (code_at option mosaic m.place m.mark) _ codes e in
    let b = bound (codes_of option (mode_after a.0 mosaic) room ms) _ codes a.2 in
    let same = same-ok (a.0 ∷ b.0) codes b.2 in
    (m.place, rw (← same) a.1)
codes_of-at option (suc room) mosaic (m ∷ ms) codes (suc c) e inside =
    let a = bound (code_at option mosaic m.place m.mark) _ codes e in
    let b = bound (codes_of option (mode_after a.0 mosaic) room ms) _ codes a.2 in
    let same = same-ok (a.0 ∷ b.0) codes b.2 in
    let longer : suc (length b.0) ≡ length codes = ap length same in
    rw (← same) (codes_of-at option room (mode_after a.0 mosaic) ms b.0 c b.1 (omega arith))

-- as many codes as marks, and no more than there is room for
pub codes_of-length : (option room : ℕ) (mosaic : Bool) (marks : List Placed) (codes : List ℕ) → codes_of option mosaic room marks ≡ Ok codes
    → (length codes ≡ length marks) × (length codes ≤ room)
unfolding codes_of
codes_of-length option room mosaic [] codes e =
    let none : codes ≡ [] = sym (same-ok [] codes e) in
    let long : length codes ≡ 0 = ap length none in
    (long, omega arith)
codes_of-length option zero mosaic (m ∷ ms) codes e = cc
codes_of-length option (suc room) mosaic (m ∷ ms) codes e =
    let a = bound (code_at option mosaic m.place m.mark) _ codes e in
    let b = bound (codes_of option (mode_after a.0 mosaic) room ms) _ codes a.2 in
    let same : suc (length b.0) ≡ length codes = ap length (same-ok (a.0 ∷ b.0) codes b.2) in
    let rest = codes_of-length option room (mode_after a.0 mosaic) ms b.0 b.1 in
    let long : length b.0 ≡ length ms = rest.0 in
    let most : length b.0 ≤ room = rest.1 in
    (sym same ∙ ap suc long, omega arith)

-- what a search among numbers finds
pub find-range : (p : ℕ → Bool) (a n x : ℕ) → find p (range_with_len a n) ≡ Some x → (a ≤ x) × (x < a + n) × (p x ≡ true)
find-range p a zero x e = cc
find-range p a (suc n) x e =
    elim (cases_Bool (p a)) [
      | inl passes ↦
          let here : a ≡ x = same-some (rw passes at e) in
          (omega arith, omega arith, subst (λ k. p k ≡ true) here passes)
      | inr fails ↦
          let rest = find-range p (a + 1) n x (rw fails at e) in
          let low : a + 1 ≤ x = rest.0 in
          let high : x < a + 1 + n = rest.1 in
          (omega arith, omega arith, rest.2)
    ]
  where
    same-some : {y : ℕ} → Some a ≡ Some y → a ≡ y
    same-some e = cc

-- the code of a character is one from 20 to 7F that shows it
pub code_of-shows : (mosaic : Bool) (option character code : ℕ) → code_of mosaic option character ≡ Some code
    → (0x20 ≤ code) × (code < 128) × (sign mosaic option code ≡ character)
unfolding code_of
code_of-shows mosaic option character code e =
    let found = find-range (λ code. sign mosaic option code == character) 0x20 96 code e in
    (found.0, found.1, eqb-true (sign mosaic option code) character found.2)

-- the code of a mark that is a character
pub shown_by-code : (lack : Lack) (found : Option ℕ) (code : ℕ) → shown_by lack found ≡ Ok code → found ≡ Some code
shown_by-code lack None code e = cc
shown_by-code lack (Some x) code e = ap Some (same-ok x code e)
