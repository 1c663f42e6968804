-- A View as a picture of 40 by 25 cells, each 20 by 24 units.
--
--   Pen, pen_text           what a stroke or a character is drawn with, and its classes
--   half_of, cell_halves    what a layer draws of a row, in halves of cells
--   strokes                 the paths of a layer: one stroke while the pen stays the same, one path for each pen
--   letters, row_letters    the characters of a row, one span for each pen
--   pass, row_glyphs        single height, and over it double height, drawn twice as high
--   body, svg_of            all backgrounds, then all glyphs; the whole picture
use Rattle.std.specs.Prelude.{ℕ, ◌+◌, ◌*◌, ◌/◌, ◌%◌, ◌==◌, Bool, true, false, not, ◌&&◌, ◌||◌, List, [], ◌∷◌, ◌++◌, codes, Option, Some, None}
use Rattle.std.specs.Prelude.{if◌then◌else◌}
use Rattle.std.specs.Fmt.{decimal}
use Rattle.ttx_render.specs.declared.cells.Glyph.{Glyph}
use Rattle.ttx_render.specs.declared.cells.Glyph.TheVariants.{Char, Mosaic}
use Rattle.ttx_render.specs.declared.cells.Part.{Part}
use Rattle.ttx_render.specs.declared.cells.Part.TheVariants.{Single, Upper, Lower}
use Rattle.ttx_render.specs.declared.cells.Cell.{Cell}
use Rattle.ttx_render.specs.Colours.{colour_number}
use Rattle.ttx_render.specs.View.{Screen}
use Rattle.ttx_picture.specs.declared.svg.pens.Pen.{Pen}
use Rattle.ttx_picture.specs.declared.svg.pens.Layer.{Layer}
use Rattle.ttx_picture.specs.declared.svg.pens.Layer.TheVariants.{Ground, Top, Middle, Bottom}
use Rattle.ttx_picture.specs.Shown.{shown_glyph}
use Rattle.ttx_picture.specs.Escapes.{escaped}

abbrev pub same_flag : Bool → Bool → Bool
same_flag true b = b
same_flag false b = not b

-- whether a path or span is open, and drawn with this pen
abbrev pub is_pen : Option Pen → Pen → Bool
is_pen None pen = false
is_pen (Some current) pen = (current.colour == pen.colour) && same_flag current.flash pen.flash && same_flag current.separated pen.separated

-- The style sheet defines the classes.
abbrev pub pen_text : Pen → List ℕ
pen_text pen = codes "c" ++ decimal pen.colour ++ (if pen.flash then codes " f" else []) ++ (if pen.separated then codes " s" else [])

abbrev pub ink : Cell → Bool → Pen
ink cell separated = record { colour = colour_number cell.fore; flash = cell.flash; separated = separated }

-- colour 8 is the television picture; black is not drawn
abbrev pub ground : Cell → Option Pen
ground cell =
    if cell.picture then Some (record { colour = 8; flash = false; separated = false })
    else if colour_number cell.back == 0 then None
    else Some (record { colour = colour_number cell.back; flash = false; separated = false })

-- whether a glyph is drawn: in single height, or from an upper half twice as high
abbrev pub is_drawn : Bool → Part → Bool
is_drawn tall Single = not tall
is_drawn tall Upper = tall
is_drawn tall Lower = false

-- the bits of the left and right block of a layer
abbrev pub left_block : Layer → ℕ
left_block Middle = 4
left_block Bottom = 16
left_block _ = 1

abbrev pub right_block : Layer → ℕ
right_block layer = 2 * left_block layer

abbrev pub has_block : ℕ → ℕ → Bool
has_block blocks value = blocks / value % 2 == 1

abbrev pub block : Cell → Bool → ℕ → Glyph → Option Pen
block cell tall value (Char code) = None
block cell tall value (Mosaic blocks separated) =
    if is_drawn tall cell.part && has_block blocks value then Some (ink cell separated) else None

abbrev pub half_of : Bool → Bool → Layer → ℕ → Cell → Option Pen
half_of reveal tall Ground value cell = ground cell
half_of reveal tall _ value cell = block cell tall value (shown_glyph reveal cell)

-- two halves for each cell
abbrev pub cell_halves : Bool → Bool → Layer → List Cell → List (Option Pen)
cell_halves reveal tall layer [] = []
cell_halves reveal tall layer (cell ∷ cells) =
    half_of reveal tall layer (left_block layer) cell ∷ half_of reveal tall layer (right_block layer) cell ∷ cell_halves reveal tall layer cells

-- rows of blocks are 8 units high
abbrev pub layer_text : Layer → List ℕ
layer_text Ground = codes "g "
layer_text _ = []

abbrev pub height_text : Layer → List ℕ
height_text Top = codes " 4H"
height_text Bottom = codes " 20H"
height_text _ = codes " 12H"

-- a stroke begins at x
abbrev pub lowered : Layer → ℕ → List ℕ
lowered layer x = codes "M" ++ decimal x ++ height_text layer

-- a stroke that has begun ends at x
abbrev pub lifted : Bool → ℕ → List ℕ
lifted down x = if down then decimal x else []

abbrev pub path_start : Layer → Pen → List ℕ
path_start layer pen = codes "<path class=\"" ++ layer_text layer ++ pen_text pen ++ codes "\" d=\""

abbrev pub path_end : Option Pen → List ℕ
path_end None = []
path_end (Some pen) = codes "\"/>"

abbrev pub stroke : Layer → Option Pen → Bool → ℕ → Option Pen → List ℕ
stroke layer current down x None = lifted down x
stroke layer current down x (Some pen) =
    if is_pen current pen then (if down then [] else lowered layer x)
    else lifted down x ++ path_end current ++ path_start layer pen ++ lowered layer x

abbrev pub pen_after : Option Pen → Option Pen → Option Pen
pen_after current None = current
pen_after current (Some pen) = Some pen

abbrev pub is_down : Option Pen → Bool
is_down None = false
is_down (Some pen) = true

-- A half is 10 units wide.
abbrev pub strokes : Layer → Option Pen → Bool → ℕ → List (Option Pen) → List ℕ
strokes layer current down x [] = lifted down x ++ path_end current
strokes layer current down x (half ∷ rest) = stroke layer current down x half ++ strokes layer (pen_after current half) (is_down half) (x + 10) rest

abbrev pub drawn : Bool → Bool → Layer → List Cell → List ℕ
drawn reveal tall layer cells = strokes layer None false 0 (cell_halves reveal tall layer cells)

abbrev pub code_of : Glyph → ℕ
code_of (Char code) = code
code_of _ = 0x20

-- the character that a cell shows in this height; otherwise a space
abbrev pub letter_of : Bool → Bool → Cell → ℕ
letter_of reveal tall cell = if is_drawn tall cell.part then code_of (shown_glyph reveal cell) else 0x20

abbrev pub has_no_letters : Bool → Bool → List Cell → Bool
has_no_letters reveal tall [] = true
has_no_letters reveal tall (cell ∷ cells) = (letter_of reveal tall cell == 0x20) && has_no_letters reveal tall cells

abbrev pub span_start : Pen → List ℕ
span_start pen = codes "<tspan class=\"" ++ pen_text pen ++ codes "\">"

abbrev pub span_end : Option Pen → List ℕ
span_end None = []
span_end (Some pen) = codes "</tspan>"

-- a character in a span of its pen; a space in any span
abbrev pub letter_text : Option Pen → ℕ → Pen → List ℕ
letter_text current letter pen =
    if letter == 0x20 then 32 ∷ []
    else if is_pen current pen then escaped letter
    else span_end current ++ span_start pen ++ escaped letter

abbrev pub span_after : Option Pen → ℕ → Pen → Option Pen
span_after current letter pen = if letter == 0x20 then current else Some pen

abbrev pub letters : Bool → Bool → Option Pen → List Cell → List ℕ
letters reveal tall current [] = span_end current
letters reveal tall current (cell ∷ cells) =
    letter_text current (letter_of reveal tall cell) (ink cell false)
    ++ letters reveal tall (span_after current (letter_of reveal tall cell) (ink cell false)) cells

-- the 40 characters of a row are stretched to its 40 cells, so each fills its cell in any face whose characters are equally wide
unfoldable pub text_start : List ℕ
text_start = codes "<text y=\"18\" textLength=\"800\" lengthAdjust=\"spacingAndGlyphs\">"

abbrev pub row_letters : Bool → Bool → List Cell → List ℕ
row_letters reveal tall cells =
    if has_no_letters reveal tall cells then [] else text_start ++ letters reveal tall None cells ++ codes "</text>"

abbrev pub pass : Bool → Bool → List Cell → List ℕ
pass reveal tall cells =
    drawn reveal tall Top cells ++ drawn reveal tall Middle cells ++ drawn reveal tall Bottom cells ++ row_letters reveal tall cells

abbrev pub is_upper : Part → Bool
is_upper Upper = true
is_upper _ = false

abbrev pub has_upper : List Cell → Bool
has_upper [] = false
has_upper (cell ∷ cells) = is_upper cell.part || has_upper cells

abbrev pub group_start : ℕ → List ℕ
group_start number = codes "<g transform=\"translate(0 " ++ decimal (24 * number) ++ codes ")"

abbrev pub row_ground : ℕ → List Cell → List ℕ
row_ground number cells = group_start number ++ codes "\">" ++ drawn false false Ground cells ++ codes "</g>"

abbrev pub row_tall : Bool → ℕ → List Cell → List ℕ
row_tall reveal number cells =
    if has_upper cells then group_start number ++ codes "scale(1 2)\">" ++ pass reveal true cells ++ codes "</g>" else []

abbrev pub row_glyphs : Bool → ℕ → List Cell → List ℕ
row_glyphs reveal number cells =
    group_start number ++ codes "\">" ++ pass reveal false cells ++ codes "</g>" ++ row_tall reveal number cells

abbrev pub grounds_from : ℕ → List (List Cell) → List ℕ
grounds_from number [] = []
grounds_from number (cells ∷ rows) = row_ground number cells ++ grounds_from (number + 1) rows

abbrev pub glyphs_from : Bool → ℕ → List (List Cell) → List ℕ
glyphs_from reveal number [] = []
glyphs_from reveal number (cells ∷ rows) = row_glyphs reveal number cells ++ glyphs_from reveal (number + 1) rows

-- a black screen
unfoldable pub black_screen : List ℕ
black_screen = codes "<rect width=\"800\" height=\"600\"/>"

-- all backgrounds are below all glyphs, since double height extends into the next row
abbrev pub body : Bool → Screen → List ℕ
body reveal view = black_screen ++ grounds_from 0 view.cells ++ glyphs_from reveal 0 view.cells

-- strokes are as high as a row of blocks, those of backgrounds as high as a cell
unfoldable pub path_style : List ℕ
path_style = codes ".t path{fill:none;stroke:currentColor;stroke-width:8;shape-rendering:crispEdges}.t .g{stroke-width:24}"

-- separated mosaics have a gap of one unit on each side of a block
unfoldable pub gap_style : List ℕ
gap_style = codes ".t .s{stroke-width:6;stroke-dasharray:0 1 8 1}"

-- characters
unfoldable pub text_style : List ℕ
text_style = codes ".t text{font:24px Bedstead Extended,Bedstead,ui-monospace,Menlo,Consolas,DejaVu Sans Mono,monospace;"
    ++ codes "white-space:pre}.t tspan{fill:currentColor}"

-- the colours of Level 1
unfoldable pub ink_style : List ℕ
ink_style = codes ".c0{color:#000}.c1{color:#f00}.c2{color:#0f0}.c3{color:#ff0}.c4{color:#00f}.c5{color:#f0f}.c6{color:#0ff}.c7{color:#fff}"

-- stripes in place of the television picture
unfoldable pub picture_style : List ℕ
picture_style = codes ".t .c8{color:#456;stroke-dasharray:19 1}"

-- invisible every other half second, unless reduced motion is preferred
unfoldable pub flash_style : List ℕ
flash_style = codes ".f{animation:f 1s step-end infinite}@keyframes f{50%{color:transparent}}"
    ++ codes "@media(prefers-reduced-motion:reduce){.f{animation:none}}"

-- the classes: g background, s separated, c0 to c8 colours, f flash
unfoldable pub style : List ℕ
style = (path_style ++ gap_style ++ text_style) ++ ink_style ++ picture_style ++ flash_style

unfoldable pub svg_start : List ℕ
svg_start = codes "<svg xmlns=\"http://www.w3.org/2000/svg\" class=\"t\" viewBox=\"0 0 800 600\" xml:space=\"preserve\" "
    ++ codes "role=\"img\" aria-label=\"Teletext page\">"

abbrev pub svg_of : Bool → Screen → List ℕ
svg_of reveal view = svg_start ++ codes "<style>" ++ style ++ codes "</style>" ++ body reveal view ++ codes "</svg>\n"
