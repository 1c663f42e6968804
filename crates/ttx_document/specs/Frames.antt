-- HTML documents to read and to print: black on white, one column, no scripts, no other files.
--
--   start_html, style       the head up to the style sheet, and the sheet; other rules may stand before it
--   body_html, end_html     from the end of the sheet to the heading; the end
--   heading_html, paragraph_html    a heading and a paragraph with fixed words
use Rattle.std.specs.Prelude.{ℕ, List, ◌++◌, codes}

unfoldable pub type_html : List ℕ
type_html = codes "<!DOCTYPE html>\n<html lang=\"en\"><head><meta charset=\"utf-8\"/>"
    ++ codes "<meta name=\"viewport\" content=\"width=device-width\"/><title>"

unfoldable pub start_html : List ℕ → List ℕ
start_html title = type_html ++ title ++ codes "</title><style>\n"

unfoldable pub page_style : List ℕ
page_style = codes "body{margin:0;background:#fff;color:#000;font:16px/1.45 Helvetica,Arial,sans-serif}main{max-width:60em;margin:auto;padding:1em}"
    ++ codes "h1{font-size:1.5em}h2{font-size:1.1em;margin:1.6em 0 .4em;border-bottom:1px solid #000}p,ul{margin:.4em 0}"

unfoldable pub table_style : List ℕ
table_style = codes "table{border-collapse:collapse}td,th{padding:.15em 1.2em .15em 0;text-align:left;vertical-align:top;border-bottom:1px solid #ccc}"
    ++ codes "code,pre{margin:0;font-family:DejaVu Sans Mono,Menlo,Consolas,monospace;font-size:.9em;overflow-wrap:anywhere}"

unfoldable pub print_style : List ℕ
print_style = codes "@page{margin:15mm}@media print{body{font-size:10pt}main{max-width:none;padding:0}h2{break-after:avoid}tr,figure{break-inside:avoid}details{display:none}}"

unfoldable pub style : List ℕ
style = page_style ++ table_style ++ print_style

unfoldable pub body_html : List ℕ → List ℕ
body_html title = codes "\n</style></head><body><main><h1>" ++ title ++ codes "</h1>\n"

unfoldable pub end_html : List ℕ
end_html = codes "</main></body></html>\n"

unfoldable pub heading_html : List ℕ → List ℕ
heading_html words = codes "<h2>" ++ words ++ codes "</h2>\n"

unfoldable pub paragraph_html : List ℕ → List ℕ
paragraph_html words = codes "<p>" ++ words ++ codes "</p>\n"
