-- The line of a verdict (profile): words and numbers separated by one space, ended by 0A.
--
--   reason_text             a reason: its number, its name and what it names
--   class_words             the class of receivers, if they surely clear
--   verdict_line            the line
use Rattle.std.specs.Prelude.{ℕ, List, [], ◌∷◌, ◌++◌, codes}
use Rattle.std.specs.Fmt.{decimal}
use Rattle.ttx_header.specs.Ids.{Id}
use Rattle.ttx_page.specs.declared.item.Item.{Item}
use Rattle.ttx_page.specs.declared.class.Class.{Class}
use Rattle.ttx_page.specs.declared.class.Class.TheVariants.{Any, Clearing}
use Rattle.ttx_digits.specs.PageIds.{id_text}
use Rattle.ttx_certificate.specs.CertificateTexts.{item_text}
use Rattle.ttx_certificate.specs.Entries.{CertificateFields}
use Rattle.ttx_witness.specs.declared.faults.reason.Reason.{Reason}
use Rattle.ttx_witness.specs.declared.faults.reason.Reason.TheVariants.{BadSlot, NoHeader, OtherSubpage, Erased, HeadDiffers, RowDiffers, LinksDiffer}
use Rattle.ttx_witness.specs.declared.faults.reason.Reason.TheVariants.{NoWitness, WitnessBad, Late, Unsteady, LateBlank}
use Rattle.ttx_certify.specs.declared.verdict.Verdict.{Verdict}
use Rattle.ttx_certify.specs.declared.verdict.Verdict.TheVariants.{Yes, No}

abbrev pub page_words : List ℕ → Id → List ℕ
page_words name page = name ++ 32 ∷ id_text page

abbrev pub slot_words : List ℕ → Id → ℕ → List ℕ
slot_words name page slot = page_words name page ++ 32 ∷ decimal slot

abbrev pub item_words : List ℕ → Id → Item → List ℕ
item_words name page item = page_words name page ++ item_text item

abbrev pub start_words : List ℕ → Id → Item → ℕ → List ℕ
start_words name page item start = item_words name page item ++ 32 ∷ decimal start

abbrev pub reason_text : Reason → List ℕ
reason_text (BadSlot slot) = codes "1 bad-slot " ++ decimal slot
reason_text (NoHeader page) = page_words (codes "2 no-header") page
reason_text (OtherSubpage page slot) = slot_words (codes "3 other-subpage") page slot
reason_text (Erased page slot) = slot_words (codes "4 erased") page slot
reason_text (HeadDiffers page slot) = slot_words (codes "5 head-differs") page slot
reason_text (RowDiffers page slot) = slot_words (codes "6 row-differs") page slot
reason_text (LinksDiffer page slot) = slot_words (codes "7 links-differ") page slot
reason_text (NoWitness page item) = item_words (codes "8 no-witness") page item
reason_text (WitnessBad page item start) = start_words (codes "9 witness-bad") page item start
reason_text (Late page item start) = start_words (codes "10 late") page item start
reason_text Unsteady = codes "11 unsteady"
reason_text (LateBlank page item header) = start_words (codes "12 late-blank") page item header

abbrev pub class_words : Class → List ℕ
class_words Any = []
class_words Clearing = codes " class clearing"

abbrev pub yes_text : CertificateFields → ℕ → List ℕ
yes_text w pages =
    codes "yes lines " ++ decimal w.lines ++ codes " repeat " ++ decimal w.repeat ++ codes " deadline " ++ decimal w.deadline ++ codes " pages "
    ++ decimal pages
    ++ class_words w.class

abbrev pub verdict_text : CertificateFields → ℕ → Verdict → List ℕ
verdict_text w pages Yes = yes_text w pages
verdict_text w pages (No reason) = codes "no " ++ reason_text reason

-- the verdict on this many pages
abbrev pub verdict_line : CertificateFields → ℕ → Verdict → List ℕ
verdict_line w pages verdict = verdict_text w pages verdict ++ 10 ∷ []
