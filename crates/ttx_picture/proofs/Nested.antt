-- The tags of pictures are nested.
use Rattle.std.proofs.Common.{◌≡◌, ◌∙◌, ℕ, ◌+◌, ◌*◌, Bool, true, false, not, ◌||◌, ◌&&◌, ◌==◌, if◌then◌else◌, List, [], ◌∷◌, ◌++◌, codes, fold}
use Rattle.std.proofs.Common.{Option, Some, None, refl, ap}
use Rattle.std.proofs.lemmas.Bool.{or_parts, and_parts}
use Rattle.std.proofs.lemmas.List.Sums.{fold-append}
use Rattle.std.specs.List.{AllByRecursion, list_all}
use Rattle.ttx_header.specs.Ids.{Id}
use Rattle.ttx_render.specs.declared.cells.Cell.{Cell}
use Rattle.ttx_render.specs.Laws.{IsPrinted, ArePrinted}
use Rattle.ttx_render.specs.View.{Screen}
use Rattle.ttx_picture.specs.declared.svg.pens.Pen.{Pen}
use Rattle.ttx_picture.specs.declared.svg.pens.Layer.{Layer}
use Rattle.ttx_picture.specs.declared.svg.pens.Layer.TheVariants.{Ground, Top, Middle, Bottom}
use Rattle.ttx_picture.specs.Escapes.{escaped}
use Rattle.ttx_picture.specs.Html.{key_class, key_start, key_title, key_end, key_html, coloured_link, keys_html, html_start, page_style, key_style}
use Rattle.ttx_picture.specs.Html.{head_end, head_html, picture_html, nav_html, text_html, html_of}
use Rattle.ttx_picture.specs.Laws.{is_markup, TagsAreNested}
use Rattle.ttx_picture.specs.Shown.{char_of, are_blank}
use Rattle.ttx_picture.specs.Svg.{is_pen, pen_text, ink, cell_halves, layer_text, height_text, lowered, lifted, path_start, path_end, stroke}
use Rattle.ttx_picture.specs.Svg.{pen_after, is_down, strokes, drawn, letter_of, has_no_letters, span_start, span_end, letter_text, span_after}
use Rattle.ttx_picture.specs.Svg.{letters, text_start, row_letters, pass, has_upper, group_start, row_ground, row_tall, row_glyphs, grounds_from}
use Rattle.ttx_picture.specs.Svg.{glyphs_from, black_screen, body, path_style, gap_style, text_style, ink_style, picture_style, flash_style, style}
use Rattle.ttx_picture.specs.Svg.{svg_start, svg_of}
use Rattle.ttx_picture.specs.Tags.{is_ruled, Place, InText, InName, InValue, Reading, reading_at, read, IsNested}
use Rattle.ttx_picture.specs.Text.{cells_text, rows_text}
use Rattle.ttx_picture.proofs.Quiet.{quiet, IsQuiet, calm, with_quiet, either_quiet, decimal_quiet, id_quiet, escaped_quiet, char_low, letter_low}

-- ---- readings

-- the text leads from one reading to the other
record Reads (a : Reading) (text : List ℕ) (b : Reading) : Type 0 where
  is : fold read a text ≡ b

reads : {a b : Reading} {text : List ℕ} → fold read a text ≡ b → Reads a text b
reads e = record { is = e }

join : {a b c : Reading} {s t : List ℕ} → Reads a s b → Reads b t c → Reads a (s ++ t) c
join {a} {b} {c} {s} {t} e f = reads (fold-append read a s t ∙ ap (λ r. fold read r t) e.is ∙ f.is)

choose : {a b : Reading} {s t : List ℕ} (c : Bool) → Reads a s b → Reads a t b → Reads a (if c then s else t) b
choose true e f = e
choose false e f = f

nothing : (a : Reading) → Reads a [] a
nothing a = reads refl

neither : (a b : Bool) → not a && not b ≡ true → (a ≡ false) × (b ≡ false)
neither true b e = cc
neither false true e = cc
neither false false e = (refl, refl)

-- a byte that is not markup and is allowed: neither < nor "
record Plain (b : ℕ) : Type 0 where
  less : (b == 60) ≡ false
  quote : (b == 34) ≡ false
  ruled : is_ruled b ≡ false

plain : (b : ℕ) → quiet b ≡ true → Plain b
plain b e =
    let parts = neither (is_markup b) (is_ruled b) e in
    let a = or_parts ((b == 60) || (b == 62) || (b == 34)) (b == 39) parts.0 in
    let c = or_parts ((b == 60) || (b == 62)) (b == 34) a.0 in
    record { less = (or_parts (b == 60) (b == 62) c.0).0; quote = c.1; ruled = parts.1 }

module _ (w : List (List ℕ)) where
  one_text : (b : ℕ) → Plain b → read (reading_at InText w) b ≡ reading_at InText w
  one_text b p = rw (p.ruled, p.less) refl

  one_value : (name : List ℕ) (b : ℕ) → Plain b → read (reading_at (InValue name) w) b ≡ reading_at (InValue name) w
  one_value name b p = rw (p.ruled, p.less, p.quote) refl

-- such bytes leave the reading unchanged in a text and in a value
module _ (w : List (List ℕ)) where
  fold_text : (bytes : List ℕ) → list_all quiet bytes ≡ true → fold read (reading_at InText w) bytes ≡ reading_at InText w
  fold_text [] e = refl
  fold_text (b ∷ bytes) e =
      let parts = and_parts (quiet b) (list_all quiet bytes) e in
      ap (λ r. fold read r bytes) (one_text w b (plain b parts.0)) ∙ fold_text bytes parts.1

  fold_value : (name : List ℕ) (bytes : List ℕ) → list_all quiet bytes ≡ true → fold read (reading_at (InValue name) w) bytes
      ≡ reading_at (InValue name) w
  fold_value name [] e = refl
  fold_value name (b ∷ bytes) e =
      let parts = and_parts (quiet b) (list_all quiet bytes) e in
      ap (λ r. fold read r bytes) (one_value w name b (plain b parts.0)) ∙ fold_value name bytes parts.1

  in_text : {bytes : List ℕ} → IsQuiet bytes → Reads (reading_at InText w) bytes (reading_at InText w)
  in_text {bytes} h = reads (fold_text bytes h.is)

  in_value : {name bytes : List ℕ} → IsQuiet bytes → Reads (reading_at (InValue name) w) bytes (reading_at (InValue name) w)
  in_value {name} {bytes} h = reads (fold_value name bytes h.is)

-- ---- strokes

pen_quiet : (pen : Pen) → IsQuiet (pen_text pen)
pen_quiet pen =
    with_quiet (with_quiet (with_quiet {a = codes "c"} (calm refl) (decimal_quiet pen.colour))
    (either_quiet {a = codes " f"} pen.flash (calm refl) (calm refl)))
    (either_quiet {a = codes " s"} pen.separated (calm refl) (calm refl))

layer_quiet : (layer : Layer) → IsQuiet (layer_text layer)
layer_quiet Ground = calm refl
layer_quiet Top = calm refl
layer_quiet Middle = calm refl
layer_quiet Bottom = calm refl

height_quiet : (layer : Layer) → IsQuiet (height_text layer)
height_quiet Ground = calm refl
height_quiet Top = calm refl
height_quiet Middle = calm refl
height_quiet Bottom = calm refl

lowered_quiet : (layer : Layer) (x : ℕ) → IsQuiet (lowered layer x)
lowered_quiet layer x = with_quiet (with_quiet {a = codes "M"} (calm refl) (decimal_quiet x)) (height_quiet layer)

lifted_quiet : (down : Bool) (x : ℕ) → IsQuiet (lifted down x)
lifted_quiet down x = either_quiet down (decimal_quiet x) (calm refl)

-- where strokes are written: in the value of a path, if one is open
abbrev path_place : Option Pen → Place
path_place None = InText
path_place (Some pen) = InValue (codes "path")

module _ (w : List (List ℕ)) where
  abbrev path_at : Option Pen → Reading
  path_at current = reading_at (path_place current) w

  path_quiet : (current : Option Pen) {bytes : List ℕ} → IsQuiet bytes → Reads (path_at current) bytes (path_at current)
  path_quiet None h = in_text w h
  path_quiet (Some pen) h = in_value w h

  ends_path : (current : Option Pen) → Reads (path_at current) (path_end current) (reading_at InText w)
  ends_path None = nothing _
  ends_path (Some pen) = reads refl

  starts_path : (layer : Layer) (pen : Pen) → Reads (reading_at InText w) (path_start layer pen) (path_at (Some pen))
  starts_path layer pen =
      join (join (join {s = codes "<path class=\""} (reads refl) (in_value w (layer_quiet layer))) (in_value w (pen_quiet pen))) (reads refl)

  new_path : (layer : Layer) (current : Option Pen) (down : Bool) (x : ℕ) (pen : Pen) →
      Reads (path_at current) (lifted down x ++ path_end current ++ path_start layer pen ++ lowered layer x) (path_at (Some pen))
  new_path layer current down x pen =
      join (join (join (path_quiet current (lifted_quiet down x)) (ends_path current)) (starts_path layer pen)) (in_value w (lowered_quiet layer x))

  one_stroke : (layer : Layer) (current : Option Pen) (down : Bool) (x : ℕ) (half : Option Pen) →
      Reads (path_at current) (stroke layer current down x half) (path_at (pen_after current half))
  one_stroke layer current down x None = path_quiet current (lifted_quiet down x)
  one_stroke layer None down x (Some pen) = new_path layer None down x pen
  one_stroke layer (Some own) down x (Some pen) =
      choose (is_pen (Some own) pen) (in_value w (either_quiet down (calm refl) (lowered_quiet layer x))) (new_path layer (Some own) down x pen)

  all_strokes : (layer : Layer) (current : Option Pen) (down : Bool) (x : ℕ) (list : List (Option Pen)) →
      Reads (path_at current) (strokes layer current down x list) (reading_at InText w)
  all_strokes layer current down x [] = join (path_quiet current (lifted_quiet down x)) (ends_path current)
  all_strokes layer current down x (half ∷ rest) =
      join (one_stroke layer current down x half) (all_strokes layer (pen_after current half) (is_down half) (x + 10) rest)

  all_drawn : (reveal tall : Bool) (layer : Layer) (cells : List Cell) →
      Reads (reading_at InText w) (drawn reveal tall layer cells) (reading_at InText w)
  all_drawn reveal tall layer cells = all_strokes layer None false 0 (cell_halves reveal tall layer cells)

-- ---- letters

abbrev pub Printed : List Cell → Type 0
Printed cells = AllByRecursion (λ (cell : Cell). IsPrinted cell.glyph) cells

-- where letters are written: in a span, if one is open
abbrev spans : Option Pen → List (List ℕ) → List (List ℕ)
spans None w = w
spans (Some pen) w = codes "tspan" ∷ w

module _ (w : List (List ℕ)) where
  abbrev span_at : Option Pen → Reading
  span_at current = reading_at InText (spans current w)

  ends_span : (current : Option Pen) → Reads (span_at current) (span_end current) (reading_at InText w)
  ends_span None = nothing _
  ends_span (Some pen) = reads refl

  starts_span : (pen : Pen) → Reads (reading_at InText w) (span_start pen) (span_at (Some pen))
  starts_span pen = join (join {s = codes "<tspan class=\""} (reads refl) (in_value w (pen_quiet pen))) (reads refl)

  new_span : (current : Option Pen) (letter : ℕ) (pen : Pen) → IsQuiet (escaped letter) →
      Reads (span_at current) (span_end current ++ span_start pen ++ escaped letter) (span_at (Some pen))
  new_span current letter pen h = join (join (ends_span current) (starts_span pen)) (in_text (codes "tspan" ∷ w) h)

  in_span : (current : Option Pen) (letter : ℕ) (pen : Pen) → IsQuiet (escaped letter) →
      Reads (span_at current) (if is_pen current pen then escaped letter else span_end current ++ span_start pen ++ escaped letter)
      (span_at (Some pen))
  in_span None letter pen h = new_span None letter pen h
  in_span (Some own) letter pen h = choose (is_pen (Some own) pen) (in_text (codes "tspan" ∷ w) h) (new_span (Some own) letter pen h)

  by_space : (space : Bool) (current : Option Pen) (pen : Pen) {text : List ℕ} → Reads (span_at current) text (span_at (Some pen)) →
      Reads (span_at current) (if space then 32 ∷ [] else text) (span_at (if space then current else Some pen))
  by_space true current pen h = in_text (spans current w) (calm refl)
  by_space false current pen h = h

  one_letter : (current : Option Pen) (letter : ℕ) (pen : Pen) → IsQuiet (escaped letter) →
      Reads (span_at current) (letter_text current letter pen) (span_at (span_after current letter pen))
  one_letter current letter pen h = by_space (letter == 0x20) current pen (in_span current letter pen h)

  module _ (reveal tall : Bool) where
    all_letters : (current : Option Pen) (cells : List Cell) → Printed cells →
        Reads (span_at current) (letters reveal tall current cells) (reading_at InText w)
    all_letters current [] h = ends_span current
    all_letters current (cell ∷ cells) h =
        join (one_letter current (letter_of reveal tall cell) (ink cell false)
        (escaped_quiet (letter_of reveal tall cell) (letter_low reveal tall cell h.0)))
        (all_letters (span_after current (letter_of reveal tall cell) (ink cell false)) cells h.1)

-- ---- rows

starts_text : (w : List (List ℕ)) → Reads (reading_at InText w) text_start (reading_at InText (codes "text" ∷ w))
unfolding text_start
starts_text w = reads refl

module _ (w : List (List ℕ)) where
  abbrev Stays : List ℕ → Type 0
  Stays text = Reads (reading_at InText w) text (reading_at InText w)

  row_of_letters : (reveal tall : Bool) (cells : List Cell) → Printed cells → Stays (row_letters reveal tall cells)
  row_of_letters reveal tall cells h =
      choose (has_no_letters reveal tall cells) (nothing _)
      (join (join (starts_text w) (all_letters (codes "text" ∷ w) reveal tall None cells h)) (reads refl))

  one_pass : (reveal tall : Bool) (cells : List Cell) → Printed cells → Stays (pass reveal tall cells)
  one_pass reveal tall cells h =
      join (join (join (all_drawn w reveal tall Top cells) (all_drawn w reveal tall Middle cells)) (all_drawn w reveal tall Bottom cells))
      (row_of_letters reveal tall cells h)

module _ (w : List (List ℕ)) where
  starts_group : (number : ℕ) → Reads (reading_at InText w) (group_start number) (reading_at (InValue (codes "g")) w)
  starts_group number =
      join (join {s = codes "<g transform=\"translate(0 "} (reads refl) (in_value w (decimal_quiet (24 * number))))
      (in_value w {bytes = codes ")"} (calm refl))

  ground_row : (number : ℕ) (cells : List Cell) → Stays w (row_ground number cells)
  ground_row number cells =
      join (join (join {t = codes "\">"} (starts_group number) (reads refl)) (all_drawn (codes "g" ∷ w) false false Ground cells)) (reads refl)

  module _ (reveal : Bool) where
    tall_row : (number : ℕ) (cells : List Cell) → Printed cells → Stays w (row_tall reveal number cells)
    tall_row number cells h =
        choose (has_upper cells)
        (join (join (join {t = codes "scale(1 2)\">"} (starts_group number) (reads refl))
        (one_pass (codes "g" ∷ w) reveal true cells h)) (reads refl)) (nothing _)

    glyph_row : (number : ℕ) (cells : List Cell) → Printed cells → Stays w (row_glyphs reveal number cells)
    glyph_row number cells h =
        join (join {t = codes "</g>"} (join (join {t = codes "\">"} (starts_group number) (reads refl))
        (one_pass (codes "g" ∷ w) reveal false cells h)) (reads refl))
        (tall_row number cells h)

    all_glyphs : (number : ℕ) (rows : List (List Cell)) → ArePrinted rows → Stays w (glyphs_from reveal number rows)
    all_glyphs number [] h = nothing _
    all_glyphs number (cells ∷ rows) h = join (glyph_row number cells h.0) (all_glyphs (number + 1) rows h.1)

  all_grounds : (number : ℕ) (rows : List (List Cell)) → Stays w (grounds_from number rows)
  all_grounds number [] = nothing _
  all_grounds number (cells ∷ rows) = join (ground_row number cells) (all_grounds (number + 1) rows)

  one_base : Stays w black_screen
  unfolding black_screen
  one_base = reads refl

  one_body : (reveal : Bool) (view : Screen) → ArePrinted view.cells → Stays w (body reveal view)
  one_body reveal view h = join (join one_base (all_grounds 0 view.cells)) (all_glyphs reveal 0 view.cells h)

-- ---- styles

style_quiet : IsQuiet style
unfolding style path_style gap_style text_style ink_style picture_style flash_style
style_quiet = calm refl

page_quiet : IsQuiet page_style
unfolding page_style
page_quiet = calm refl

key_quiet : IsQuiet key_style
unfolding key_style
key_quiet = calm refl

starts_svg : (w : List (List ℕ)) → Reads (reading_at InText w) svg_start (reading_at InText (codes "svg" ∷ w))
unfolding svg_start
starts_svg w = reads refl

svg_nested : (reveal : Bool) (view : Screen) → ArePrinted view.cells → IsNested (svg_of reveal view)
svg_nested reveal view h =
    let head = join {t = codes "<style>"} (starts_svg []) (reads refl) in
    let sheet = join {t = codes "</style>"} (join head (in_text (codes "style" ∷ codes "svg" ∷ []) style_quiet)) (reads refl) in
    (join {t = codes "</svg>\n"} (join sheet (one_body (codes "svg" ∷ []) reveal view h)) (reads refl)).is

-- ---- links

module _ (w : List (List ℕ)) where
  class_read : (name : List ℕ) (colour : ℕ) → Reads (reading_at (InName name) w) (key_class colour) (reading_at (InValue name) w)
  class_read name colour = join {s = codes " class=\"k c"} (reads refl) (in_value w (decimal_quiet colour))

  start_read : (linked : Bool) (colour : ℕ) (id : Id) →
      Reads (reading_at InText w) (key_start linked colour id) (reading_at (InValue (codes "a")) w)
  unfolding key_start
  start_read true colour id =
      join (join {t = codes "\" href=\"#"} (join {s = codes "<a"} (reads refl) (class_read (codes "a") colour)) (reads refl))
      (in_value w (id_quiet id))
  start_read false colour id = join {s = codes "<a"} (reads refl) (class_read (codes "a") colour)

  title_read : (name : List ℕ) (id : Id) → IsQuiet name →
      Reads (reading_at (InValue (codes "a")) w) (key_title name id) (reading_at (InValue (codes "a")) w)
  unfolding key_title
  title_read name id h =
      join (join (join {b = reading_at (InValue (codes "a")) w} {s = codes "\" title=\""} (reads refl) (in_value w h))
      (in_value w {bytes = codes ": page "} (calm refl))) (in_value w (id_quiet id))

  end_read : (id : Id) → Reads (reading_at (InValue (codes "a")) w) (key_end id) (reading_at InText w)
  unfolding key_end
  end_read id = join {t = codes "</a>"} (join {s = codes "\">"} (reads refl) (in_text (codes "a" ∷ w) (id_quiet id))) (reads refl)

  key_read : (linked : Bool) (name : List ℕ) (colour : ℕ) (id : Option Id) → IsQuiet name → Stays w (key_html linked name colour id)
  key_read linked name colour None h = join {t = codes "\">-</span>"} (join {s = codes "<span"} (reads refl) (class_read (codes "span") colour)) (reads refl)
  key_read linked name colour (Some id) h = join (join (start_read linked colour id) (title_read name id h)) (end_read id)

  keys_read : (linked : Bool) (view : Screen) → Stays w (keys_html linked view)
  keys_read linked view =
      join (join (join
      (join (join (key_read linked (codes "Red") 1 (coloured_link view 0) (calm refl))
      (key_read linked (codes "Green") 2 (coloured_link view 1) (calm refl)))
      (key_read linked (codes "Yellow") 3 (coloured_link view 2) (calm refl)))
      (key_read linked (codes "Cyan") 6 (coloured_link view 3) (calm refl))) (key_read linked (codes "Next") 7 (coloured_link view 4) (calm refl)))
      (key_read linked (codes "Index") 7 (coloured_link view 5) (calm refl))

-- ---- texts

cells_quiet : (reveal : Bool) (cells : List Cell) → Printed cells → IsQuiet (cells_text true reveal cells)
cells_quiet reveal [] h = calm refl
cells_quiet reveal (cell ∷ cells) h =
    either_quiet (are_blank reveal (cell ∷ cells)) (calm refl)
    (with_quiet (escaped_quiet (char_of reveal cell) (char_low reveal cell h.0)) (cells_quiet reveal cells h.1))

rows_quiet : (reveal : Bool) (rows : List (List Cell)) → ArePrinted rows → IsQuiet (rows_text true reveal rows)
rows_quiet reveal [] h = calm refl
rows_quiet reveal (cells ∷ rows) h = with_quiet (with_quiet {b = 10 ∷ []} (cells_quiet reveal cells h.0) (calm refl)) (rows_quiet reveal rows h.1)

-- ---- whole pages

starts_html : Reads (reading_at InText []) html_start (reading_at InText (codes "style" ∷ codes "head" ∷ codes "html" ∷ []))
unfolding html_start
starts_html = reads refl

ends_head : Reads (reading_at InText (codes "style" ∷ codes "head" ∷ codes "html" ∷ [])) head_end
    (reading_at InText (codes "main" ∷ codes "body" ∷ codes "html" ∷ []))
unfolding head_end
ends_head = reads refl

head_read : Reads (reading_at InText []) head_html (reading_at InText (codes "main" ∷ codes "body" ∷ codes "html" ∷ []))
head_read =
    let w : List (List ℕ) = codes "style" ∷ codes "head" ∷ codes "html" ∷ [] in
    join (join (join (join starts_html (in_text w style_quiet)) (in_text w page_quiet)) (in_text w key_quiet)) ends_head

module _ (w : List (List ℕ)) where
  picture_read : (reveal : Bool) (view : Screen) → ArePrinted view.cells → Stays w (picture_html reveal view)
  picture_read reveal view h = join {t = codes "</svg>"} (join (starts_svg w) (one_body (codes "svg" ∷ w) reveal view h)) (reads refl)

  nav_read : (linked : Bool) (view : Screen) → Stays w (nav_html linked view)
  nav_read linked view = join {t = codes "</nav>"} (join {s = codes "<nav>"} (reads refl) (keys_read (codes "nav" ∷ w) linked view)) (reads refl)

  text_read : (reveal : Bool) (view : Screen) → ArePrinted view.cells → Stays w (text_html reveal view)
  text_read reveal view h =
      join {t = codes "</pre></details>"}
      (join {s = codes "<details><summary>Text</summary><pre>"} (reads refl)
      (in_text (codes "pre" ∷ codes "details" ∷ w) (rows_quiet reveal view.cells h))) (reads refl)

html_nested : (reveal : Bool) (view : Screen) → ArePrinted view.cells → IsNested (html_of reveal view)
html_nested reveal view h =
    let w : List (List ℕ) = codes "main" ∷ codes "body" ∷ codes "html" ∷ [] in
    (join {t = codes "</main></body></html>\n"}
    (join (join (join head_read (picture_read w reveal view h)) (nav_read w false view)) (text_read w reveal view h))
    (reads refl)).is

pub tags_are_nested_lem : TagsAreNested
tags_are_nested_lem reveal view h = (svg_nested reveal view h, html_nested reveal view h)
