-- All pages of a cycle as one HTML file that needs no other file.
--
--   title_of, index_html    the characters of a page header; links to the pages
--   leaf_html, leaves_html    a page: its picture, its links and its text
--   book_text               the whole file
use Rattle.std.specs.Prelude.{ℕ, ◌+◌, ◌*◌, ◌%◌, ◌==◌, nat_lt, false, List, [], ◌∷◌, ◌++◌, codes, if◌then◌else◌, Option, Some, None}
use Rattle.std.specs.List.{flat_map}
use Rattle.ttx_book.specs.Hearing.{page_memory, leaf_id, leaf_ids}
use Rattle.ttx_charset.specs.Glyphs.{glyph}
use Rattle.ttx_header.specs.Control.{option_of}
use Rattle.ttx_header.specs.Fields.{HeaderFields}
use Rattle.ttx_header.specs.Headers.{header_fields_of}
use Rattle.ttx_header.specs.Ids.{Id}
use Rattle.ttx_pages.specs.Keys.{owners, page_headers}
use Rattle.ttx_picture.specs.Escapes.{escaped}
use Rattle.ttx_picture.specs.Html.{sheet, figure_html}
use Rattle.ttx_render.specs.View.{view_of}
use Rattle.ttx_digits.specs.Digits.{hex_byte, hex_digit}
use Rattle.ttx_digits.specs.PageIds.{id_text}

unfoldable pub book_start : List ℕ
book_start = codes "<!DOCTYPE html>\n<html lang=\"en\"><head><meta charset=\"utf-8\"/>"
    ++ codes "<meta name=\"viewport\" content=\"width=device-width\"/><title>Teletext pages</title><style>"

-- pages outside the window are not rendered
unfoldable pub book_style : List ℕ
book_style = codes ".i{flex-wrap:wrap}.i a{padding:.4em;color:#fff}h2{font-size:1em;margin:0;padding:.7em}"
    ++ codes ".i a{display:flex;flex:1 1 22em;gap:1em;text-decoration:none}.i span{white-space:pre;font-family:monospace}"
    ++ codes "section{content-visibility:auto;contain-intrinsic-size:auto calc(min(100vw,800px)*.75 + 7.7em)}"
    ++ codes "#n{position:fixed;top:0;right:0;background:#000;color:#fff;padding:.2em .4em;font-size:1.5em}"
    ++ codes "#n:empty{display:none}"

unfoldable pub index_start : List ℕ
index_start = codes "</style></head><body><main><output id=\"n\"></output><nav class=\"i\" aria-label=\"Pages\">"

-- a page's name is its id, as everywhere in the program
unfoldable pub name_of : Id → List ℕ
name_of id = id_text id

-- a character of a page header, whose highest bit is parity; a spacing attribute is a space
abbrev pub title_char : ℕ → ℕ → ℕ
title_char option byte = if nat_lt (byte % 128) 32 then 32 else glyph option (byte % 128)

abbrev pub title_text : ℕ → List ℕ → List ℕ
title_text option bytes = flat_map (λ byte. escaped (title_char option byte)) bytes

-- the 24 characters of a page header
unfoldable pub title_of : HeaderFields → List ℕ
title_of header = title_text (option_of header.control) header.text

unfoldable pub entry_start : Id → List ℕ
entry_start id = codes "<a href=\"#" ++ name_of id ++ codes "\">" ++ name_of id

unfoldable pub entry_end : HeaderFields → List ℕ
entry_end header = codes "<span>" ++ title_of header ++ codes "</span></a>"

abbrev pub index_entry : HeaderFields → Id → List ℕ
index_entry header id = entry_start id ++ entry_end header

-- a time-filling header has no entry
abbrev pub entry_or_none : HeaderFields → Option Id → List ℕ
entry_or_none header None = []
entry_or_none header (Some id) = index_entry header id

abbrev pub index_html : List (List ℕ) → List ℕ
index_html headers = flat_map (λ header. entry_or_none (header_fields_of header) (leaf_id header)) headers

-- magazine and page number
abbrev pub full_number : Id → ℕ
full_number id = id.mag * 256 + id.page

-- The first page of each number also gets that number as an anchor, since a link may lead to any subpage.
unfoldable pub anchor : ℕ → Id → List ℕ
anchor former id =
    if former == full_number id then [] else codes "<a id=\"" ++ (48 + id.mag) ∷ hex_byte id.page ++ codes "\"></a>"

unfoldable pub section_tag : List ℕ
section_tag = codes "<section id=\""

unfoldable pub heading : Id → List ℕ
heading id = codes "\"><h2>" ++ name_of id ++ codes "</h2>"

unfoldable pub leaf_end : List ℕ
leaf_end = codes "</section>"

unfoldable pub leaf_html : List (List ℕ) → List ℕ → ℕ → Id → List ℕ
leaf_html slots pages former id =
    (anchor former id ++ section_tag ++ name_of id ++ heading id) ++ figure_html false (view_of (page_memory slots pages id)) ++ leaf_end

-- the pages; `former` is the number of the previous one
abbrev pub leaves_html : List (List ℕ) → List ℕ → ℕ → List Id → List ℕ
leaves_html slots pages former [] = []
leaves_html slots pages former (id ∷ ids) = leaf_html slots pages former id ++ leaves_html slots pages (full_number id) ids

-- Three typed digits lead to the page with this number. It is scrolled to ten times in half a second, since the pages that come
-- into the window only then get their heights.
unfoldable pub script : List ℕ
script = codes "<script>var t='',n=document.getElementById('n');document.addEventListener('keydown',function(e){"
    ++ codes "if(e.ctrlKey||e.altKey||e.metaKey||!/^[0-9]$/.test(e.key))return;t=t.length==3?e.key:t+e.key;n.textContent=t;"
    ++ codes "if(t.length==3){var p=document.getElementById(t);if(p){location.hash=t;n.textContent='';s(p,9)}"
    ++ codes "else n.textContent=t+'?'}});function s(p,k){p.scrollIntoView();if(k)setTimeout(function(){s(p,k-1)},50)}</script>"

unfoldable pub book_end : List ℕ
book_end = codes "</main></body></html>\n"

abbrev pub head_of : List (List ℕ) → List ℕ
head_of headers = (book_start ++ sheet ++ book_style) ++ index_start ++ index_html headers ++ codes "</nav>"

unfoldable pub book_of : List (List ℕ) → List ℕ → List (List ℕ) → List Id → List ℕ
book_of slots pages headers ids = head_of headers ++ leaves_html slots pages 0 ids ++ script ++ book_end

-- the book of a cycle
unfoldable pub book_text : List (List ℕ) → List ℕ
book_text slots = book_of slots (owners slots) (page_headers slots) (leaf_ids slots)
