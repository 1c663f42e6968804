-- What a report says of the verdict.
--
--   within_text             the pages and the deadline
--   yes_words, no_words, verdict_words      what a verdict means
--   verdict_html            the line of `certify`, and what it means
--   right_words, rule_words, lines_words, numbers_html   what is assumed
--   promise_html, decoders_html     what a yes promises, and to which decoders
use Rattle.std.specs.Prelude.{ℕ, ◌*◌, ◌==◌, if◌then◌else◌, List, ◌++◌, codes}
use Rattle.std.specs.Fmt.{decimal}
use Rattle.ttx_certify.specs.VerdictLines.{verdict_line}
use Rattle.ttx_certify.specs.declared.verdict.Verdict.{Verdict}
use Rattle.ttx_certify.specs.declared.verdict.Verdict.TheVariants.{Yes, No}
use Rattle.ttx_document.specs.Frames.{heading_html}
use Rattle.ttx_page.specs.declared.class.Class.{Class}
use Rattle.ttx_page.specs.declared.class.Class.TheVariants.{Any, Clearing}
use Rattle.ttx_wait.specs.WaitLines.{seconds_text}
use Rattle.ttx_certificate.specs.Entries.{CertificateFields}

unfoldable pub receivers_text : Class → List ℕ
receivers_text Any = codes "every receiver that keeps the rules"
receivers_text Clearing = codes "every receiver that keeps the rules and surely clears what it holds when a page is selected"

unfoldable pub pages_text : ℕ → List ℕ
pages_text pages = codes " shows each page of the service text (" ++ decimal pages ++ codes " in all) as it was authored, at most "

-- a field is two hundredths of a second
unfoldable pub deadline_text : ℕ → List ℕ
deadline_text deadline = decimal deadline ++ codes " fields (" ++ seconds_text (2 * deadline) ++ codes " s) after it is tuned to the page"

unfoldable pub shows_text : CertificateFields → ℕ → List ℕ
shows_text w pages = receivers_text w.class ++ pages_text pages ++ deadline_text w.deadline

unfoldable pub yes_words : CertificateFields → ℕ → List ℕ
yes_words w pages =
    codes "<b>Yes</b>: as long as this cycle is repeated unchanged, " ++ shows_text w pages ++ codes ", and ever after, the header clock aside."

unfoldable pub no_words : CertificateFields → ℕ → List ℕ
no_words w pages =
    codes "<b>No</b>: it is not certain that " ++ shows_text w pages
    ++ codes ". The line above gives the first reason, which ttx explain explains. It does not prove a failure: ttx refute looks for one."

unfoldable pub verdict_words : CertificateFields → ℕ → Verdict → List ℕ
verdict_words w pages Yes = yes_words w pages
verdict_words w pages (No reason) = no_words w pages

unfoldable pub verdict_html : CertificateFields → ℕ → Verdict → List ℕ
verdict_html w pages verdict =
    heading_html (codes "Verdict") ++ codes "<p><code>" ++ verdict_line w pages verdict ++ codes "</code></p>\n<p>"
    ++ verdict_words w pages verdict ++ codes "</p>\n"

unfoldable pub right_words : ℕ → List ℕ
right_words repeat =
    if repeat == 1 then codes "each character is right. "
    else codes "of " ++ decimal repeat ++ codes " successive transmissions of a character at least one is right. "

unfoldable pub rule_words : ℕ → List ℕ
rule_words repeat = codes "Assumed of the reception: no packet is lost, at most one bit of a byte is wrong, and " ++ right_words repeat

unfoldable pub lines_words : ℕ → ℕ → List ℕ
lines_words lines authored =
    codes "A field, a fiftieth of a second, has " ++ decimal lines ++ codes " slots in the certificate, " ++ decimal authored
    ++ codes " in the service text."

unfoldable pub numbers_html : CertificateFields → ℕ → List ℕ
numbers_html w authored = codes "<p>" ++ rule_words w.repeat ++ lines_words w.lines authored ++ codes "</p>\n"

unfoldable pub nearest_rows : List ℕ
nearest_rows = codes "<table><tr><th>A decoder that</th><th>is covered by a yes</th></tr>\n"
    ++ codes "<tr><td>shows each row as it comes</td><td>yes</td></tr>\n"
    ++ codes "<tr><td>shows a page when the next one ends it, as libzvbi does</td><td>only by certify --late</td></tr>\n"

unfoldable pub further_rows : List ℕ
further_rows =
    codes "<tr><td>refuses a row with a wrong byte whole, or loses rows</td><td>if one of K successive transmissions of a row arrives whole, K being the repeat count</td></tr>\n"
    ++ codes "<tr><td>stores characters whatever their parity</td><td>if no row arrives with a wrong character</td></tr>\n"

-- a receiver that surely clears what it held has more to hold after a loss than before it is tuned
unfoldable pub loss_words : Class → List ℕ
loss_words Any = codes "right again a deadline after the last loss"
loss_words Clearing = codes "only with a certificate of class any"

unfoldable pub last_rows : Class → List ℕ
last_rows class = codes "<tr><td>loses page headers</td><td>" ++ loss_words class
    ++ codes "</td></tr>\n<tr><td>checks a page by its check word</td><td>no</td></tr></table>\n"

unfoldable pub decoders_html : Class → List ℕ
decoders_html class = heading_html (codes "To which decoders") ++ nearest_rows ++ further_rows ++ last_rows class
