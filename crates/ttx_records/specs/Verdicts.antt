-- Verdicts of `certify` as JSON objects (profile): the names and values of its lines.
--
--   yes_members             a yes, with further members
--   no_members              a rejection with a number: the members that all of them have, and those of this one
--   of_page, at_slot, of_item, at_place     a rejection that names a page; also a slot; an item; an item and its start, slot or header
--   reason_members          a rejection for a reason
--   verdict_record          a verdict
--   reason_record, page_record, page_records    a reason, the first one of a page, and those of all pages
--   all_records             the verdict, the reasons of the pages, and how many pages have one
use Rattle.std.specs.Prelude.{ℕ, List, [], ◌∷◌, ◌++◌, codes, flat_map, length, Option, Some, None}
use Rattle.ttx_header.specs.Ids.{Id}
use Rattle.ttx_digits.specs.PageIds.{id_text}
use Rattle.ttx_page.specs.declared.item.Item.{Item}
use Rattle.ttx_certificate.specs.Entries.{CertificateFields}
use Rattle.ttx_witness.specs.declared.faults.reason.Reason.{Reason}
use Rattle.ttx_witness.specs.declared.faults.reason.Reason.TheVariants.{BadSlot, NoHeader, OtherSubpage, Erased, HeadDiffers, RowDiffers, LinksDiffer}
use Rattle.ttx_witness.specs.declared.faults.reason.Reason.TheVariants.{NoWitness, WitnessBad, Late, Unsteady, LateBlank}
use Rattle.ttx_certify.specs.AllLines.{reasons_in}
use Rattle.ttx_certify.specs.declared.all_reasons.PageReason.{PageReason}
use Rattle.ttx_certify.specs.declared.verdict.Verdict.{Verdict}
use Rattle.ttx_certify.specs.declared.verdict.Verdict.TheVariants.{Yes, No}
use Rattle.ttx_json.specs.Objects.{Member, word, count}
use Rattle.ttx_records.specs.Names.{line, item_name, class_name}

abbrev pub yes_members : CertificateFields → ℕ → List Member → List Member
yes_members w pages members =
    word (codes "answer") (codes "yes") ∷ count (codes "lines") w.lines ∷ count (codes "repeat") w.repeat ∷ count (codes "deadline") w.deadline
    ∷ count (codes "pages") pages ∷ word (codes "class") (class_name w.class) ∷ members

abbrev pub no_members : ℕ → List ℕ → List Member → List Member
no_members number name members =
    word (codes "answer") (codes "no") ∷ count (codes "number") number ∷ word (codes "name") name ∷ members

abbrev pub of_page : ℕ → List ℕ → Id → List Member → List Member
of_page number name page members = no_members number name (word (codes "page") (id_text page) ∷ members)

abbrev pub at_slot : ℕ → List ℕ → Id → ℕ → List Member
at_slot number name page slot = of_page number name page (count (codes "slot") slot ∷ [])

abbrev pub of_item : ℕ → List ℕ → Id → Item → List Member → List Member
of_item number name page item members = of_page number name page (word (codes "item") (item_name item) ∷ members)

-- with a slot and its name
abbrev pub at_place : ℕ → List ℕ → Id → Item → List ℕ → ℕ → List Member
at_place number name page item place slot = of_item number name page item (count place slot ∷ [])

abbrev pub bad_slot : ℕ → List Member
bad_slot slot = no_members 1 (codes "bad-slot") (count (codes "slot") slot ∷ [])

abbrev pub unsteady : List Member
unsteady = no_members 11 (codes "unsteady") []

abbrev pub reason_members : Reason → List Member
reason_members (BadSlot slot) = bad_slot slot
reason_members (NoHeader page) = of_page 2 (codes "no-header") page []
reason_members (OtherSubpage page slot) = at_slot 3 (codes "other-subpage") page slot
reason_members (Erased page slot) = at_slot 4 (codes "erased") page slot
reason_members (HeadDiffers page slot) = at_slot 5 (codes "head-differs") page slot
reason_members (RowDiffers page slot) = at_slot 6 (codes "row-differs") page slot
reason_members (LinksDiffer page slot) = at_slot 7 (codes "links-differ") page slot
reason_members (NoWitness page item) = of_item 8 (codes "no-witness") page item []
reason_members (WitnessBad page item start) = at_place 9 (codes "witness-bad") page item (codes "start") start
reason_members (Late page item start) = at_place 10 (codes "late") page item (codes "start") start
reason_members Unsteady = unsteady
reason_members (LateBlank page item header) = at_place 12 (codes "late-blank") page item (codes "header") header

abbrev pub verdict_record : CertificateFields → ℕ → Verdict → List ℕ
verdict_record w pages Yes = line (yes_members w pages [])
verdict_record w pages (No reason) = line (reason_members reason)

abbrev pub reason_record : Option Reason → List ℕ
reason_record None = []
reason_record (Some reason) = line (reason_members reason)

abbrev pub page_record : PageReason → List ℕ
page_record t = reason_record t.reason

abbrev pub page_records : List PageReason → List ℕ
page_records = flat_map page_record

abbrev pub count_record : List PageReason → List ℕ
count_record told = line (count (codes "reasons") (reasons_in told) ∷ count (codes "pages") (length told) ∷ [])

abbrev pub all_records : CertificateFields → Verdict → List PageReason → List ℕ
all_records w verdict told = verdict_record w (length told) verdict ++ page_records told ++ count_record told
