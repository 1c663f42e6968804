-- Two Views beside each other, as HTML.
--
--   figures_style           the style of figures with marks
--   mark_html, marks_html   the frame round a row that differs
--   figure_start, figure_end        a figure with its caption
--   figures_html            the page as authored beside what is shown
use Rattle.std.specs.Prelude.{ℕ, ◌+◌, ◌*◌, Bool, false, if◌then◌else◌, List, [], ◌∷◌, ◌++◌, codes, slice_index_or}
use Rattle.std.specs.Fmt.{decimal}
use Rattle.ttx_failure.specs.Unlike.{is_unlike}
use Rattle.ttx_picture.specs.Html.{figure_html}
use Rattle.ttx_render.specs.View.{Screen}
use Rattle.ttx_render.specs.declared.cells.Cell.{Cell}

unfoldable pub figures_style : List ℕ
figures_style = codes ".b{display:flex;flex-wrap:wrap;gap:1em;margin-top:1em}figure{flex:1 1 18em;margin:0}figcaption{font-weight:bold;padding-bottom:.4em}"
    ++ codes ".p{position:relative}.p i{position:absolute;top:0;left:0;right:0;padding-top:3%;outline:2px solid #d0a}"
    ++ codes "nav{-webkit-print-color-adjust:exact;print-color-adjust:exact}nav a{pointer-events:none}"

-- a row is as high as 3 percent of the width of the picture
abbrev pub mark_html : ℕ → List ℕ
mark_html number = codes "<i style=\"margin-top:" ++ decimal (3 * number) ++ codes "%\"></i>"

unfoldable pub mark_if : Bool → ℕ → List ℕ
mark_if unlike number = if unlike then mark_html number else []

abbrev pub marks_html : List (List Cell) → ℕ → List (List Cell) → List ℕ
marks_html own number [] = []
marks_html own number (cells ∷ rows) =
    mark_if (is_unlike number cells (slice_index_or own number [])) number ++ marks_html own (number + 1) rows

unfoldable pub figure_start : List ℕ → List ℕ
figure_start caption = codes "<figure><figcaption>" ++ caption ++ codes "</figcaption><div class=\"p\">"

unfoldable pub figure_end : List ℕ
figure_end = codes "</div></figure>\n"

-- a View with marks where the two differ
unfoldable pub marked_html : List ℕ → Screen → Screen → Screen → List ℕ
marked_html caption view shown own =
    figure_start caption ++ figure_html false view ++ marks_html own.cells 0 shown.cells ++ figure_end

unfoldable pub figures_html : Screen → Screen → List ℕ
figures_html shown own =
    codes "<div class=\"b\">" ++ marked_html (codes "As authored") own shown own
    ++ marked_html (codes "As the receiver shows it") shown shown own ++ codes "</div>\n"
