-- The names of options, one after another; the lines of mistakes, one after another.
use Rattle.std.proofs.Common.{◌≡◌, ◌∙◌, ℕ, suc, ◌+◌, ◌-◌, ◌<◌, ◌≤◌, List, [], ◌∷◌, ◌++◌, flat_map, length, take, get_or, ap, refl, sym, arith, append_assoc}
use Rattle.std.proofs.lemmas.List.{append-nil, take_more}
use Rattle.std.specs.List.{range_with_len}
use Rattle.toml.specs.Data.{Members}
use Rattle.ttx_desk.specs.MistakeLines.{IsMistakeLine, AreMistakeLines}
use Rattle.ttx_desk.specs.Words.{name_if, names_from}
use Rattle.ttx_desk.specs.declared.mistakes.Mistake.{Mistake}

range-more : (number left : ℕ) → left ≡ suc (7 - (number + 1)) → range_with_len number left ≡ number ∷ range_with_len (number + 1) (7 - (number + 1))
range-more number left e = ap (range_with_len number) e

pub names-more : (c number : ℕ) (names : List (List ℕ)) → number < 7 → (names ++ name_if c number) ++ names_from c (number + 1) ≡ names ++ names_from c number
names-more c number names inside =
    append_assoc names (name_if c number) (names_from c (number + 1))
    ∙ ap (λ is. names ++ flat_map (name_if c) is) (sym (range-more number (7 - number) (omega arith)))

pub names-end : (c number : ℕ) (names : List (List ℕ)) → 7 ≤ number → names ++ names_from c number ≡ names
names-end c number names past =
    let none : 7 - number ≡ 0 = omega arith in ap (λ left. names ++ flat_map (name_if c) (range_with_len number left)) none ∙ append-nil names

pub lines-more : (file text : List ℕ) (author : Members) (mistakes : List Mistake) (mistake : Mistake) (lines line : List ℕ)
    → AreMistakeLines file text author mistakes lines → IsMistakeLine file text author mistake line
    → AreMistakeLines file text author (mistakes ++ mistake ∷ []) (lines ++ line)
lines-more file text author [] mistake lines line none is = (line, [], is, refl, ap (λ front. front ++ line) none ∙ sym (append-nil line))
lines-more file text author (first ∷ mistakes) mistake lines line front is = (
  front.0,
  front.1 ++ line,
  front.2,
  lines-more file text author mistakes mistake front.1 line front.3 is,
  ap (λ l. l ++ line) front.4 ∙ append_assoc front.0 front.1 line,
)
