-- Texts without markup and control characters: numbers, page numbers, and characters.
use Rattle.std.proofs.Common.{◌≡◌, ◌∙◌, ℕ, zero, suc, ◌+◌, ◌-◌, ◌/◌, ◌%◌, ◌<◌, ◌≤◌, Bool, true, false, not, ◌||◌, ◌&&◌, ◌==◌, nat_lt, if◌then◌else◌}
use Rattle.std.proofs.Common.{List, [], ◌∷◌, ◌++◌, length, get_or, encode_utf8, refl, sym, ap, arith}
use Rattle.std.proofs.lemmas.Bool.{or_parts, le-ltb}
use Rattle.std.proofs.lemmas.Bool.Decides.{nat_tests}
use Rattle.std.proofs.lemmas.List.{append-nil}
use Rattle.std.proofs.lemmas.List.Folds.{list_all-append}
use Rattle.std.proofs.lemmas.Str.{inside_one}
use Rattle.std.specs.Fmt.{decimal, digits, digits_onto, digit_glyph}
use Rattle.std.specs.List.{list_all}
use Rattle.ttx_header.specs.Ids.{Id}
use Rattle.ttx_render.specs.declared.cells.Cell.{Cell}
use Rattle.ttx_render.specs.declared.cells.Glyph.{Glyph}
use Rattle.ttx_render.specs.declared.cells.Glyph.TheVariants.{Char, Mosaic}
use Rattle.ttx_render.specs.declared.cells.Part.{Part}
use Rattle.ttx_render.specs.declared.cells.Part.TheVariants.{Single, Upper, Lower}
use Rattle.ttx_render.specs.Laws.{is_control, IsPrinted}
use Rattle.ttx_picture.specs.Escapes.{escaped}
use Rattle.ttx_picture.specs.Laws.{is_markup, is_reserved}
use Rattle.ttx_digits.specs.Digits.{hex_digit, hex_byte}
use Rattle.ttx_picture.specs.Links.{sub_text, page_name}
use Rattle.ttx_picture.specs.Shown.{shown_glyph, over, sextant, braille, quadrant, quarters, contiguous, half, glyph_char, char_with, char_of}
use Rattle.ttx_picture.specs.declared.shown.Mosaics.{Mosaics}
use Rattle.ttx_picture.specs.declared.shown.Mosaics.TheVariants.{Sextants, Quadrants}
use Rattle.ttx_picture.specs.Svg.{is_drawn, code_of, letter_of}
use Rattle.ttx_picture.specs.Tags.{is_ruled}
use Rattle.ttx_picture.proofs.Escaping.{by_if, cases}

abbrev pub quiet : ℕ → Bool
quiet b = not (is_markup b) && not (is_ruled b)

pub record IsQuiet (bytes : List ℕ) : Type 0 where
  pub is : list_all quiet bytes ≡ true

pub calm : {bytes : List ℕ} → list_all quiet bytes ≡ true → IsQuiet bytes
calm e = record { is = e }

pub both_true : (a b : Bool) → a ≡ true → b ≡ true → a && b ≡ true
both_true a b e f = rw (e, f)

pub with_quiet : {a b : List ℕ} → IsQuiet a → IsQuiet b → IsQuiet (a ++ b)
with_quiet {a} {b} e f = calm (list_all-append quiet a b ∙ both_true (list_all quiet a) (list_all quiet b) e.is f.is)

pub either_quiet : {a b : List ℕ} (t : Bool) → IsQuiet a → IsQuiet b → IsQuiet (if t then a else b)
either_quiet true e f = e
either_quiet false e f = f

-- ---- numbers

-- digits and letters
figure_quiet : (b : ℕ) → 48 ≤ b → b < 58 → quiet b ≡ true
figure_quiet b l h = grind (arith, nat_tests)

pub high_quiet : (b : ℕ) → 65 ≤ b → quiet b ≡ true
high_quiet b l = grind (arith, nat_tests)

small_digit : (n : ℕ) → nat_lt n 10 ≡ true → n < 10
small_digit n e = grind (arith, nat_tests)

glyph_quiet : (n : ℕ) → quiet (digit_glyph false n) ≡ true
glyph_quiet n =
    by_if (λ b. quiet b ≡ true) (nat_lt n 10) (48 + n) (87 + n)
    (λ e. figure_quiet (48 + n) (omega arith) (omega (arith, small_digit n e))) (λ e. high_quiet (87 + n) (omega arith))

onto_quiet : (k n : ℕ) (rest : List ℕ) → IsQuiet rest → IsQuiet (digits_onto k 10 false n rest)
onto_quiet zero n rest h = h
onto_quiet (suc k) n rest h =
    let more : IsQuiet (digit_glyph false (n % 10) ∷ rest) =
    calm (both_true (quiet (digit_glyph false (n % 10))) (list_all quiet rest) (glyph_quiet (n % 10)) h.is) in
    either_quiet (n / 10 == 0) more (onto_quiet k (n / 10) (digit_glyph false (n % 10) ∷ rest) more)

pub decimal_quiet : (n : ℕ) → IsQuiet (decimal n)
unfolding digits
decimal_quiet n = onto_quiet 64 n [] (calm refl)

digit_quiet : (n : ℕ) → quiet (hex_digit n) ≡ true
digit_quiet n =
    by_if (λ b. quiet b ≡ true) (nat_lt n 10) (48 + n) (55 + n)
    (λ e. figure_quiet (48 + n) (omega arith) (omega (arith, small_digit n e))) (λ e. high_quiet (55 + n) (omega (arith, large_digit n e)))
  where
    large_digit : (n : ℕ) → nat_lt n 10 ≡ false → 10 ≤ n
    large_digit n e = grind (arith, nat_tests)

two_quiet : (n : ℕ) → IsQuiet (hex_byte n)
two_quiet n = calm (both_true (quiet (hex_digit (n / 16))) _ (digit_quiet (n / 16))
    (both_true (quiet (hex_digit (n % 16))) true (digit_quiet (n % 16)) refl))

sub_quiet : (sub : ℕ) → IsQuiet (sub_text sub)
sub_quiet sub = either_quiet (sub == 0x3f7f) (calm refl) (with_quiet {a = 47 ∷ hex_byte (sub / 256)} slash (two_quiet (sub % 256)))
  where
    slash : IsQuiet (47 ∷ hex_byte (sub / 256))
    slash = calm (two_quiet (sub / 256)).is

pub id_quiet : (id : Id) → IsQuiet (page_name id)
id_quiet id = with_quiet {a = hex_digit id.mag ∷ hex_byte id.page} first (sub_quiet id.sub)
  where
    first : IsQuiet (hex_digit id.mag ∷ hex_byte id.page)
    first = calm (both_true (quiet (hex_digit id.mag)) (list_all quiet (hex_byte id.page)) (digit_quiet id.mag) (two_quiet id.page).is)

-- ---- characters

by_index : (p : ℕ → Bool) (xs : List ℕ) → ((k : ℕ) → k < length xs → p (get_or xs k 0) ≡ true) → list_all p xs ≡ true
by_index p [] h = refl
by_index p (x ∷ xs) h = both_true (p x) (list_all p xs) (h zero (omega arith)) (by_index p xs (λ k l. h (suc k) (omega (arith, l))))

-- a property of a character and of each byte above 127 holds for all bytes of its UTF-8
pub utf8_all : (p : ℕ → Bool) (c : ℕ) → p c ≡ true → ((b : ℕ) → 128 ≤ b → p b ≡ true) → list_all p (encode_utf8 c) ≡ true
utf8_all p c own high = by_index p (encode_utf8 c)
    (λ k l. by_byte (get_or (encode_utf8 c) k 0) (inside_one c [] (encode_utf8 c) k (sym (append-nil _)) l))
  where
    by_test : (b : ℕ) → (b < 128 → c ≡ b) → (t : Bool) → nat_lt b 128 ≡ t → p b ≡ true
    by_test b same true e = let low : b < 128 = grind (arith, nat_tests) in ap p (sym (same low)) ∙ own
    by_test b same false e = high b (grind (arith, nat_tests))

    by_byte : (b : ℕ) → (b < 128 → c ≡ b) → p b ≡ true
    by_byte b same = by_test b same (nat_lt b 128) refl

not_reserved : (c : ℕ) → is_reserved c ≡ false → nat_lt c 32 ≡ false → quiet c ≡ true
not_reserved c e f = grind (arith, nat_tests)

pub escaped_quiet : (c : ℕ) → nat_lt c 32 ≡ false → IsQuiet (escaped c)
escaped_quiet c low = cases c IsQuiet
    (λ _. calm refl) (λ _. calm refl) (λ _. calm refl) (λ _. calm refl) (λ _. calm refl)
    (λ e. calm (utf8_all quiet c (not_reserved c e low) (λ b h. high_quiet b (omega (arith, h)))))

---- what cells show is a space or above

printed_low : (code : ℕ) → is_control code ≡ false → nat_lt code 32 ≡ false
printed_low code e = (or_parts _ _ e).0

shown_printed : (reveal : Bool) (cell : Cell) → IsPrinted cell.glyph → IsPrinted (shown_glyph reveal cell)
shown_printed reveal cell h = by_if IsPrinted (cell.picture || (cell.concealed && not reveal)) _ _ (λ _. refl) (λ _. h)

over_low : (bound n : ℕ) → over bound n ≤ 1
over_low bound n = by_if (λ x. x ≤ 1) (nat_lt bound n) 1 0 (λ _. omega arith) (λ _. omega arith)

abbrev AtLeast32 : ℕ → Type 0
AtLeast32 c = nat_lt c 32 ≡ false

sextant_low : (blocks : ℕ) → AtLeast32 (sextant blocks)
unfolding sextant
sextant_low blocks =
    by_if AtLeast32 (blocks == 0) _ _ (λ _. refl)
    (λ _. by_if AtLeast32 (blocks == 21) _ _ (λ _. refl) (λ _. by_if AtLeast32 (blocks == 42) _ _ (λ _. refl)
    (λ _. by_if AtLeast32 (blocks == 63) _ _ (λ _. refl)
    (λ _. le-ltb (0x1faff + blocks - over 21 blocks - over 42 blocks) 32 (omega (arith, over_low 21 blocks, over_low 42 blocks))))))

braille_low : (blocks : ℕ) → AtLeast32 (braille blocks)
unfolding braille
braille_low blocks = by_if AtLeast32 (blocks == 0) _ _ (λ _. refl) (λ _. le-ltb _ 32 (omega arith))

either_low : (t : Bool) (x y : ℕ) → AtLeast32 x → AtLeast32 y → AtLeast32 (if t then x else y)
either_low true x y e f = e
either_low false x y e f = f

quadrant_low : (lit : ℕ) → AtLeast32 (quadrant lit)
unfolding quadrant
quadrant_low lit =
    either_low (lit == 0) _ _ refl (either_low (lit == 1) _ _ refl (either_low (lit == 2) _ _ refl (either_low (lit == 3) _ _ refl
    (either_low (lit == 4) _ _ refl (either_low (lit == 5) _ _ refl (either_low (lit == 6) _ _ refl (either_low (lit == 7) _ _ refl
    (either_low (lit == 8) _ _ refl (either_low (lit == 9) _ _ refl (either_low (lit == 10) _ _ refl (either_low (lit == 11) _ _ refl
    (either_low (lit == 12) _ _ refl (either_low (lit == 13) _ _ refl (either_low (lit == 14) _ _ refl refl))))))))))))))

contiguous_low : (mosaics : Mosaics) (blocks : ℕ) → AtLeast32 (contiguous mosaics blocks)
contiguous_low Sextants blocks = sextant_low blocks
contiguous_low Quadrants blocks = quadrant_low (quarters blocks)

glyph_low : (mosaics : Mosaics) (part : Part) (g : Glyph) → IsPrinted g → AtLeast32 (glyph_char mosaics part g)
glyph_low mosaics Single (Char code) h = printed_low code h
glyph_low mosaics Upper (Char code) h = printed_low code h
glyph_low mosaics Lower (Char code) h = refl
glyph_low mosaics part (Mosaic blocks separated) h =
    by_if AtLeast32 separated _ _ (λ _. braille_low (half part blocks)) (λ _. contiguous_low mosaics (half part blocks))

pub char_with_low : (mosaics : Mosaics) (reveal : Bool) (cell : Cell) → IsPrinted cell.glyph → AtLeast32 (char_with mosaics reveal cell)
unfolding char_with
char_with_low mosaics reveal cell h = glyph_low mosaics cell.part (shown_glyph reveal cell) (shown_printed reveal cell h)

pub char_low : (reveal : Bool) (cell : Cell) → IsPrinted cell.glyph → AtLeast32 (char_of reveal cell)
char_low reveal cell h = char_with_low Sextants reveal cell h

code_low : (g : Glyph) → IsPrinted g → AtLeast32 (code_of g)
code_low (Char code) h = printed_low code h
code_low (Mosaic blocks separated) h = refl

pub letter_low : (reveal tall : Bool) (cell : Cell) → IsPrinted cell.glyph → AtLeast32 (letter_of reveal tall cell)
letter_low reveal tall cell h = by_if AtLeast32 (is_drawn tall cell.part) _ _
    (λ _. code_low (shown_glyph reveal cell) (shown_printed reveal cell h)) (λ _. refl)
