-- A row of plain codes has nothing that looks other than it is written.
use Rattle.std.proofs.Common.{◌≡◌, ℕ, ◌+◌, ◌<◌, Bool, true, false, not, ◌||◌, List, [], ◌∷◌, ◌++◌, append-nil, Option, Some, None, refl, sym, ap, ◌∙◌, arith}
use Rattle.std.proofs.lemmas.Bool.{agree_below_at, and_parts}
use Rattle.std.specs.List.{list_all}
use Rattle.std.specs.Prelude.{◌==◌, is_none, position}
use Rattle.ttx_charset.specs.Glyphs.{glyph, places, placed, base, national_set}
use Rattle.ttx_header.specs.Control.{option_of}
use Rattle.ttx_page.specs.Pages.{Page}
use Rattle.ttx_check.specs.PageWarnings.{sign_warnings}
use Rattle.ttx_check.specs.declared.warning.Warning.{Warning}
use Rattle.ttx_check.specs.RowSigns.{is_plain, is_other, other_from, mosaic_after, is_escape, has_escape, is_open_after, boxed_after}

none : (o : Option ℕ) → is_none o ≡ true → o ≡ None
none None h = refl
none (Some x) h = absurd (cc)

below : (c : ℕ) → is_plain c ≡ true → c < 128
below c h = grind (arith, h)

apart : (c : ℕ) → is_plain c ≡ true → position (λ place. place == c) places ≡ None
apart c h = none (position (λ place. place == c) places)
    (sym (ap (λ b. not b || is_none (position (λ place. place == c) places)) h)
    ∙ agree_below_at (λ c. not (is_plain c) || is_none (position (λ place. place == c) places)) (λ _. true) 128 c refl (below c h))

itself : (c : ℕ) → is_plain c ≡ true → base c ≡ c
itself c h = grind (arith, h)

plain_glyph : (option c : ℕ) → is_plain c ≡ true → glyph option c ≡ c
unfolding glyph
plain_glyph option c h = ap (placed (national_set option) c) (apart c h) ∙ itself c h

plain_other : (option : ℕ) (mosaic : Bool) (c : ℕ) → is_plain c ≡ true → is_other option mosaic c ≡ false
plain_other option mosaic c h = grind (arith, plain_glyph option c h)

plain_escape : (c : ℕ) (row : List ℕ) → is_plain c ≡ true → is_escape (c ∷ row) ≡ false
unfolding is_escape
plain_escape c row h = grind (arith, h)

plain_box : (before c : ℕ) → is_plain c ≡ true → boxed_after false before c ≡ false
plain_box before c h = grind (arith, h)

no_other : (option : ℕ) (mosaic : Bool) (column : ℕ) (row : List ℕ) → list_all is_plain row ≡ true → other_from option mosaic column row ≡ None
no_other option mosaic column [] h = refl
no_other option mosaic column (c ∷ row) h =
    let both = and_parts (is_plain c) (list_all is_plain row) h in
    rw (plain_other option mosaic c both.0) (no_other option (mosaic_after mosaic c) (column + 1) row both.1)

no_escape : (row : List ℕ) → list_all is_plain row ≡ true → has_escape row ≡ false
no_escape [] h = refl
no_escape (c ∷ row) h =
    let both = and_parts (is_plain c) (list_all is_plain row) h in
    rw (plain_escape c row both.0) (no_escape row both.1)

no_box : (before : ℕ) (row : List ℕ) → list_all is_plain row ≡ true → is_open_after false before row ≡ false
no_box before [] h = refl
no_box before (c ∷ row) h =
    let both = and_parts (is_plain c) (list_all is_plain row) h in
    rw (plain_box before c both.0) (no_box c row both.1)

nothing_told : (p : Page) (number : ℕ) (row : List ℕ) → list_all is_plain row ≡ true → sign_warnings p number row ≡ []
unfolding sign_warnings
nothing_told p number row h = rw (no_other (option_of p.control) false 0 row h, no_escape row h, no_box 0 row h) refl

pub nothing_added : (found : List Warning) (p : Page) (number : ℕ) (row : List ℕ) → list_all is_plain row ≡ true →
    found ++ sign_warnings p number row ≡ found
nothing_added found p number row h = rw (nothing_told p number row h) (append-nil found)
