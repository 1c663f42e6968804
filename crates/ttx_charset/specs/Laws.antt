-- Laws of the national characters.
--
--   ShowsOnly           under each option a letter is shown by its own code and by no other
--   LettersStandAlone   A and B are such letters
use Rattle.std.specs.Prelude.{◌≡◌, ◌<◌, ◌↔◌, ℕ}
use Rattle.ttx_charset.specs.Glyphs.{glyph}

abbrev pub ShowsOnly : ℕ → Type 0
ShowsOnly letter = (option code : ℕ) → option < 8 → code < 128 → (glyph option code ≡ letter) ↔ (code ≡ letter)

-- 41 is A, 42 is B
abbrev pub LettersStandAlone : Type 0
LettersStandAlone = ShowsOnly 0x41 × ShowsOnly 0x42
