-- Each cell shows what its mark says.
use Rattle.std.proofs.Common.{◌≡◌, ◌∙◌, ℕ, suc, ◌+◌, ◌-◌, ◌<◌, ◌≤◌, Bool, true, false, ◌&&◌, List, [], ◌++◌, take, drop, get_or, length, map, replicate, refl, sym, ap}
use Rattle.std.proofs.Common.{◌/◌, ◌%◌, ◌*◌, if◌then◌else◌}
use Rattle.std.proofs.Common.{arith, inl, inr, subst, Ok, nat_lt}
use Rattle.std.proofs.Math.Seq.{take-append-add}
use Rattle.std.proofs.lemmas.Bool.{cases_Bool, ltb-true, ltb-false, le-ltb, lt-ltb}
use Rattle.std.proofs.lemmas.List.{get_or_past, get_or-replicate, get_or-append_right, get_or-append-add, get_or_append_left, take-append-le, append-nil, length-map, length-replicate, take-append-drop}
use Rattle.std.proofs.Common.{length-append}
use Rattle.ttx_charset.specs.Glyphs.{glyph}
use Rattle.ttx_header.specs.Control.{option_of}
use Rattle.ttx_page.specs.Memories.{Memory, memory_row}
use Rattle.ttx_page.specs.Pages.{is_tall}
use Rattle.ttx_render.specs.declared.cells.Cell.{Cell}
use Rattle.ttx_render.specs.declared.cells.Glyph.{Glyph}
use Rattle.ttx_render.specs.declared.cells.Glyph.TheVariants.{Char}
use Rattle.ttx_render.specs.declared.attributes.Attributes.{Attributes}
use Rattle.ttx_render.specs.Attributes.{attributes_at, mosaic_at, hold_at}
use Rattle.ttx_render.specs.Cells.{glyph_of}
use Rattle.ttx_render.specs.Laws.{IsOwn}
use Rattle.ttx_render.specs.Mosaics.{has_blocks, mosaic_of, held_at}
use Rattle.ttx_render.specs.Spacing.{spacing_of}
use Rattle.ttx_render.specs.View.{codes_of}
use Rattle.ttx_author.specs.declared.marks.Mark.{Mark}
use Rattle.ttx_author.specs.declared.marks.Mark.TheVariants.{Sign, Control, Stray}
use Rattle.ttx_author.specs.Signs.{block_character, sign}
use Rattle.ttx_author.specs.Marks.{Placed, marks_of}
use Rattle.ttx_author.specs.Rows as rows
use Rattle.ttx_author.specs.Seen.{ShowsCharacter, Shows, CellShows, mark_at, RowIsSeen, HeadIsSeen}
use Rattle.ttx_author.proofs.Codes.{bound, same-ok, nth_mark, codes_of-at, codes_of-length, code_of-shows, shown_by-code}
use Rattle.ttx_author.proofs.Modes.{mode_left, mode_left-append, mosaic_at-left}
use Rattle.ttx_author.proofs.OwnCells.{own-cell, codes_of-shown, codes_of-head}
use Rattle.ttx_author.proofs.Written.{IsWritten, marks_from-below}

-- a glyph

sign-blocks : (mosaic : Bool) (option code : ℕ) → mosaic && has_blocks code ≡ true →
    sign mosaic option code ≡ block_character (code % 32 + 32 * (code / 64 % 2))
unfolding sign
sign-blocks mosaic option code e = rw e refl

sign-glyph : (mosaic : Bool) (option code : ℕ) → mosaic && has_blocks code ≡ false → sign mosaic option code ≡ glyph option code
unfolding sign
sign-glyph mosaic option code e = rw e refl

above-controls : (now : Attributes) (held : Glyph) (option code character : ℕ) → nat_lt code 0x20 ≡ false → sign now.mosaic option code ≡ character →
    ShowsCharacter character (glyph_of now held option code)
above-controls now held option code character high e =
    rw high
    (elim (cases_Bool (now.mosaic && has_blocks code)) [
      | inl blocks ↦ rw blocks (sym (sign-blocks now.mosaic option code blocks) ∙ e)
      | inr none ↦ rw none (sym (sign-glyph now.mosaic option code none) ∙ e)
    ])

shows : (now : Attributes) (held : Glyph) (option code place : ℕ) (mark : Mark) → IsWritten mark → rows.code_at option now.mosaic place mark ≡ Ok code →
    Shows now.hold mark (glyph_of now held option code)
shows now held option code place (Sign character) written e =
    let found = code_of-shows now.mosaic option character code (shown_by-code (rows.lack_at place (rows.why_not option now.mosaic character)) _ code e) in
    above-controls now held option code character (le-ltb code 0x20 found.0) found.2
shows now held option code place (Control k) written e =
    let same : k ≡ code = same-ok k code e in
    let low : nat_lt code 0x20 ≡ true = lt-ltb code 0x20 (subst (λ n. n < 0x20) same written) in
    λ released. rw (low, released) refl
shows now held option code place Stray written e = cc

space-by : (mosaic separated : Bool) (option : ℕ) → ShowsCharacter 0x20 (if mosaic && true then mosaic_of 0x20 separated else Char (glyph option 0x20))
unfolding block_character glyph
space-by true separated option = refl
space-by false separated option = refl

shows-space : (now : Attributes) (held : Glyph) (option code : ℕ) → code ≡ 0x20 → Shows now.hold (Sign 0x20) (glyph_of now held option code)
shows-space now held option code e =
    subst (λ n. Shows now.hold (Sign 0x20) (glyph_of now held option n)) (sym e) (space-by now.mosaic now.separated option)

-- a cell of a row

-- the cell at a column of this row shows what the mark says
abbrev ShowsAt : Bool → List ℕ → ℕ → ℕ → Mark → Type 0
ShowsAt tall row option k mark = Shows (hold_at tall row k) mark (glyph_of (attributes_at tall row k) (held_at tall row k) option (get_or row k 0))

-- behind the codes of a text stand spaces
module _ (tall : Bool) (option width : ℕ) (front codes back : List ℕ) (marks : List Placed) where
  abbrev the_row : List ℕ
  the_row = front ++ (rows.filled width codes ++ back)

  read-code : (c k : ℕ) → c < length codes → k ≡ length front + c → get_or the_row k 0 ≡ get_or codes c 0
  read-code c k inside at =
      ap (λ n. get_or the_row n 0) at
      ∙ get_or-append-add front (rows.filled width codes ++ back) c 0
      ∙ get_or_append_left (rows.filled width codes) back 0 c (omega (arith, length-append codes (replicate (width - length codes) 0x20)))
      ∙ get_or_append_left codes (replicate (width - length codes) 0x20) 0 c inside

  read-space : (c k : ℕ) → length codes ≤ c → c < width → k ≡ length front + c → get_or the_row k 0 ≡ 0x20
  read-space c k past inside at =
      let n : ℕ = width - length codes in
      let long : length (replicate n 0x20) ≡ n = length-replicate {A = ℕ} n 0x20 in
      let whole : length (rows.filled width codes) ≡ length codes + n = length-append codes (replicate n 0x20) ∙ ap (λ k. length codes + k) long in
      ap (λ n. get_or the_row n 0) at
      ∙ get_or-append-add front (rows.filled width codes ++ back) c 0
      ∙ get_or_append_left (rows.filled width codes) back 0 c (omega arith)
      ∙ get_or-append_right codes (replicate n 0x20) (length codes) c 0 refl past
      ∙ get_or-replicate n (c - length codes) 0x20 0 (omega arith)

  mode-at : (c k : ℕ) → c < length codes → k ≡ length front + c → mode_left front false ≡ false
      → mosaic_at tall the_row k ≡ mode_left (take c codes) false
  mode-at c k inside at starts =
      let whole = length-append front (rows.filled width codes ++ back) in
      let rest = length-append (rows.filled width codes) back in
      let own = length-append codes (replicate (width - length codes) 0x20) in
      mosaic_at-left tall the_row k (omega arith)
      ∙ ap (λ n. mode_left (take n the_row) false) at
      ∙ ap (λ xs. mode_left xs false) (take-append-add front (rows.filled width codes ++ back) c)
      ∙ mode_left-append front (take c (rows.filled width codes ++ back)) false
      ∙ ap (mode_left (take c (rows.filled width codes ++ back))) starts
      ∙ ap (λ xs. mode_left xs false)
      (take-append-le c (rows.filled width codes) back (omega arith) ∙ take-append-le c codes (replicate (width - length codes) 0x20) (omega arith))

  pub shows-at : (c k : ℕ) → c < width → k ≡ length front + c → mode_left front false ≡ false → ((d : ℕ) → IsWritten (nth_mark marks d))
      → rows.codes_of option false width marks ≡ Ok codes → ShowsAt tall the_row option k (nth_mark marks c)
  shows-at c k inside at starts written e =
      elim (cases_Bool (nat_lt c (length codes))) [
        | inl own ↦
            let here : c < length codes = ltb-true c (length codes) own in
            let found = codes_of-at option width false marks codes c e here in
            let mode = mode-at c k here at starts in
            let code = read-code c k here at in
            shows (attributes_at tall the_row k) (held_at tall the_row k) option (get_or the_row k 0) found.0 (nth_mark marks c) (written c)
            (ap (λ m. rows.code_at option m found.0 (nth_mark marks c)) mode ∙ found.1 ∙ ap Ok (sym code))
        | inr past ↦
            let behind : length codes ≤ c = ltb-false c (length codes) past in
            let count : length codes ≡ length marks = (codes_of-length option width false marks codes e).0 in
            let mapped : length (map (λ (m : Placed). m.mark) marks) ≡ length marks = length-map marks (λ (m : Placed). m.mark) in
            let none : nth_mark marks c ≡ Sign 0x20 = get_or_past (map (λ (m : Placed). m.mark) marks) c (Sign 0x20) (omega arith) in
            let space : get_or the_row k 0 ≡ 0x20 = read-space c k behind inside at in
            subst (λ mark. ShowsAt tall the_row option k mark) (sym none)
            (shows-space (attributes_at tall the_row k) (held_at tall the_row k) option (get_or the_row k 0) space)
      ]

-- rows of a View

cell-shows : (m : Memory) (number c : ℕ) (mark : Mark) → IsOwn m number c → ShowsAt (is_tall number) (codes_of m number) (option_of m.control) c mark
    → CellShows m number c mark
cell-shows m number c mark own at =
    subst (λ (x : Cell). Shows (hold_at (is_tall number) (codes_of m number) c) mark x.glyph) (sym (own-cell m number c own)) at

pub row_is_seen_lem : RowIsSeen
row_is_seen_lem m above c text e own =
    let tall = is_tall (suc above) in
    let option = option_of m.control in
    let found = bound (rows.codes_of option false 40 (marks_of text)) _ (memory_row m (suc above)) e in
    let codes : List ℕ = found.0 in
    let row : rows.filled 40 codes ≡ memory_row m (suc above) = same-ok (rows.filled 40 codes) (memory_row m (suc above)) found.2 in
    let shown : [] ++ (rows.filled 40 codes ++ []) ≡ codes_of m (suc above) = append-nil (rows.filled 40 codes) ∙ row ∙ sym (codes_of-shown m above own.1) in
    cell-shows m (suc above) c (mark_at text c) own
    (subst (λ xs. ShowsAt tall xs option c (mark_at text c)) shown
    (shows-at tall option 40 [] codes [] (marks_of text) c c own.0.1 (omega arith) refl (marks_from-below 0 0 text) found.1))

pub head_is_seen_lem : HeadIsSeen
unfolding spacing_of
head_is_seen_lem m c text e own =
    let option = option_of m.control in
    let row = memory_row m 0 in
    let found = bound (rows.codes_of option false 24 (marks_of text)) _ (take 24 (drop 8 row)) e in
    let codes : List ℕ = found.0 in
    let head : rows.filled 24 codes ≡ take 24 (drop 8 row) = same-ok (rows.filled 24 codes) (take 24 (drop 8 row)) found.2 in
    let shown : replicate 8 0x20 ++ (rows.filled 24 codes ++ drop 24 (drop 8 row)) ≡ codes_of m 0 =
    ap (λ xs. replicate 8 0x20 ++ (xs ++ drop 24 (drop 8 row))) head
    ∙ ap (λ xs. replicate 8 0x20 ++ xs) (take-append-drop 24 (drop 8 row)) ∙ sym (codes_of-head m own.1) in
    let inside : 8 + c < 32 = (own.0.2 refl).1 in
    cell-shows m 0 (8 + c) (mark_at text c) own
    (subst (λ xs. ShowsAt (is_tall 0) xs option (8 + c) (mark_at text c)) shown
    (shows-at (is_tall 0) option 24 (replicate 8 0x20) codes (drop 24 (drop 8 row)) (marks_of text) c (8 + c) (omega arith) refl refl
    (marks_from-below 0 0 text) found.1))
