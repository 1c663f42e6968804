-- A cell shows a letter if and only if its code is that of the letter.
use Rattle.std.proofs.Common.{◌≡◌, ℕ, zero, suc, ◌<◌, Bool, true, false, ◌&&◌, if◌then◌else◌, nat_lt, List, refl, sym, arith, inl, inr, subst}
use Rattle.ttx_charset.specs.Glyphs.{glyph}
use Rattle.ttx_charset.specs.Laws.{ShowsOnly, LettersStandAlone}
use Rattle.ttx_render.specs.Laws.{IsLetter}
use Rattle.ttx_render.specs.declared.cells.Glyph.{Glyph}
use Rattle.ttx_render.specs.declared.cells.Glyph.TheVariants.{Char}
use Rattle.ttx_render.specs.declared.attributes.Attributes.{Attributes}
use Rattle.ttx_render.specs.Cells.{glyph_of}
use Rattle.ttx_render.specs.Mosaics.{mosaic_of, held_at, has_blocks, same}

-- the national sets

only-of : LettersStandAlone → (letter : ℕ) → IsLetter letter → ShowsOnly letter
only-of alone letter (inl a) = subst ShowsOnly (sym a) alone.0
only-of alone letter (inr b) = subst ShowsOnly (sym b) alone.1

-- held mosaics are not letters

by_if : {A : Type 0} (b : Bool) (x y g : Glyph) → (x ≡ g → A) → (y ≡ g → A) → (if b then x else y) ≡ g → A
by_if true x y g f h e = f e
by_if false x y g f h e = h e

space-letter : (letter : ℕ) → Char 0x20 ≡ Char letter → letter ≡ 0x20
space-letter letter e = cc

mosaic-letter : (letter code : ℕ) (separated : Bool) → mosaic_of code separated ≡ Char letter → letter ≡ 0x20
mosaic-letter letter code separated e = cc

pub held-letter : (tall : Bool) (row : List ℕ) (letter c : ℕ) → held_at tall row c ≡ Char letter → letter ≡ 0x20
held-letter tall row letter zero e = space-letter letter e
held-letter tall row letter (suc d) e =
    by_if _ _ _ (Char letter) (by_if _ _ _ (Char letter) (mosaic-letter letter _ _) (held-letter tall row letter d)) (space-letter letter) e

-- a cell's glyph

char-letter : (a b : ℕ) → Char a ≡ Char b → a ≡ b
char-letter a b e = cc

-- if the glyph is a letter, the code is that letter
pub glyph_of-letter : LettersStandAlone → (now : Attributes) (g : Glyph) (option code letter : ℕ) → IsLetter letter → option < 8 → code < 128 →
    (g ≡ Char letter → letter ≡ 0x20) → glyph_of now g option code ≡ Char letter → code ≡ letter
glyph_of-letter alone now g option code letter is o l no_letter e =
    by_if (nat_lt code 0x20) _ _ (Char letter)
    (λ e. absurd (not_space is (by_if now.hold g (Char 0x20) (Char letter) no_letter (space-letter letter) e)))
    (by_if (now.mosaic && has_blocks code) _ _ (Char letter)
    (λ e. absurd (not_space is (mosaic-letter letter code now.separated e)))
    (λ e. (only-of alone letter is option code o l).0 (char-letter _ _ e)))
    e
  where
    not_space : IsLetter letter → letter ≡ 0x20 → ⊥
    not_space (inl a) s = absurd (omega arith)
    not_space (inr b) s = absurd (omega arith)

no-mosaic : (b : Bool) (x y : Glyph) → (if b && false then x else y) ≡ y
no-mosaic true x y = refl
no-mosaic false x y = refl

shown-by : (letter option : ℕ) (now : Attributes) (g : Glyph) → nat_lt letter 0x20 ≡ false → has_blocks letter ≡ false →
    glyph option letter ≡ letter → glyph_of now g option letter ≡ Char letter
shown-by letter option now g low bit same = rw (low, bit, same) (no-mosaic now.mosaic _ _)

pub letter-glyph_of : LettersStandAlone → (now : Attributes) (g : Glyph) (option letter : ℕ) → IsLetter letter → option < 8 →
    glyph_of now g option letter ≡ Char letter
letter-glyph_of alone now g option letter (inl a) o =
    rw a (shown-by 0x41 option now g refl refl ((alone.0 option 0x41 o (omega arith)).1 refl))
letter-glyph_of alone now g option letter (inr b) o =
    rw b (shown-by 0x42 option now g refl refl ((alone.1 option 0x42 o (omega arith)).1 refl))
