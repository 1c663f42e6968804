use Rattle.std.proofs.Common.{◌≡◌, ◌<◌, ℕ, Bool, true, refl, sym, ◌∙◌, eqb}
use Rattle.std.proofs.lemmas.Bool.{agree_below, agree_below_at, eqb-true, eq-eqb}
use Rattle.ttx_charset.specs.Glyphs.{glyph, national_set}
use Rattle.ttx_charset.specs.Laws.{ShowsOnly}
use Rattle.ttx_charset.proofs.laws.letters_stand_alone.Goals as goal

-- the letter is tested against all codes under one option
abbrev alone_in : ℕ → ℕ → Bool
alone_in letter option = agree_below (λ code. eqb (glyph option code) letter) (λ code. eqb code letter) 128

a-alone : agree_below (alone_in 0x41) (λ _. true) 8 ≡ true
unfolding glyph national_set
a-alone = refl

b-alone : agree_below (alone_in 0x42) (λ _. true) 8 ≡ true
unfolding glyph national_set
b-alone = refl

same-test : (letter : ℕ) → agree_below (alone_in letter) (λ _. true) 8 ≡ true → (option code : ℕ) → option < 8 → code < 128 →
    eqb (glyph option code) letter ≡ eqb code letter
same-test letter all option code o c =
    agree_below_at (λ code. eqb (glyph option code) letter) (λ code. eqb code letter) 128 code
    (agree_below_at (alone_in letter) (λ _. true) 8 option all o) c

shows-only : (letter : ℕ) → agree_below (alone_in letter) (λ _. true) 8 ≡ true → ShowsOnly letter
shows-only letter all option code o c =
    let same = same-test letter all option code o c in
    (λ e. eqb-true code letter (sym same ∙ eq-eqb _ _ e), λ e. eqb-true (glyph option code) letter (same ∙ eq-eqb _ _ e))

pub returns : goal.returns
returns c = (shows-only 0x41 a-alone, shows-only 0x42 b-alone)
