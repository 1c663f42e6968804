-- How long viewers wait, as JSON objects (profile): the names and values of the lines of `wait`.
--
--   fault_members           why a page is not sent unchanged
--   beside_of, beside_page, beside_members  the fields that are promised, and whether the page comes too late
--   fields_beside, wait_members     how long a viewer of a page waits, or why never, beside this
--   of_page, page_members   the members of a page
--   page_record, page_records       the object of a page; those of all
--   all_members             the deadline for all pages, or why there is none
--   absent_record, absent_records   a page on the air that is not in the service; all of them
--   wait_records            all objects
use Rattle.std.specs.Prelude.{ℕ, ◌*◌, Bool, true, List, [], ◌∷◌, ◌++◌, codes, flat_map, Option, Some, None}
use Rattle.ttx_header.specs.Ids.{Id}
use Rattle.ttx_digits.specs.PageIds.{id_text}
use Rattle.ttx_page.specs.declared.item.Item.{Item}
use Rattle.ttx_promise.specs.PromisedWaits.{is_late}
use Rattle.ttx_promise.specs.declared.waits_and_promises.PromisedWait.{PromisedWait}
use Rattle.ttx_wait.specs.WaitLines.{seconds_text}
use Rattle.ttx_witness.specs.declared.faults.reason.Reason.{Reason}
use Rattle.ttx_witness.specs.declared.faults.reason.Reason.TheVariants.{NoHeader, OtherSubpage, Erased, HeadDiffers, RowDiffers, LinksDiffer}
use Rattle.ttx_witness.specs.declared.wait_times.wait.Losses.{Losses}
use Rattle.ttx_witness.specs.declared.wait_times.wait.Wait.{Wait}
use Rattle.ttx_witness.specs.declared.wait_times.wait.Wait.TheVariants.{Fields, Faulty, Unsure}
use Rattle.ttx_json.specs.Objects.{Member, word, count, flag}
use Rattle.ttx_records.specs.declared.waits.Beside.{Beside}
use Rattle.ttx_records.specs.Names.{line, item_name}

abbrev pub never : List Member → List Member
never members = flag (codes "never") true ∷ members

abbrev pub at : List ℕ → ℕ → List Member
at name slot = never (word (codes "name") name ∷ count (codes "slot") slot ∷ [])

abbrev pub fault_members : Reason → List Member
fault_members (NoHeader page) = never (word (codes "name") (codes "no-header") ∷ [])
fault_members (OtherSubpage page slot) = at (codes "other-subpage") slot
fault_members (Erased page slot) = at (codes "erased") slot
fault_members (HeadDiffers page slot) = at (codes "head-differs") slot
fault_members (RowDiffers page slot) = at (codes "row-differs") slot
fault_members (LinksDiffer page slot) = at (codes "links-differ") slot
fault_members reason = never []

-- a field is two hundredths of a second
abbrev pub fields_members : ℕ → List Member
fields_members fields = count (codes "fields") fields ∷ word (codes "seconds") (seconds_text (2 * fields)) ∷ []

abbrev pub needed_by : Item → List Member
needed_by item = word (codes "needed_by") (item_name item) ∷ []

abbrev pub wait_unsure : Item → Losses → List Member
wait_unsure item losses =
    never (word (codes "needed_by") (item_name item) ∷ count (codes "sent") losses.sent ∷ count (codes "near") losses.near
    ∷ count (codes "cut") losses.cut ∷ [])

abbrev pub beside_members : Option Beside → List Member
beside_members None = []
beside_members (Some b) = count (codes "of") b.promise ∷ flag (codes "late") b.late ∷ []

abbrev pub beside_of : Option ℕ → Bool → Option Beside
beside_of None late = None
beside_of (Some promise) late = Some (record { promise = promise; late = late })

abbrev pub beside_page : PromisedWait → Option Beside
beside_page one = beside_of one.promise (is_late one)

-- beside a promise the line does not name the item
abbrev pub fields_beside : ℕ → Item → Option Beside → List Member
fields_beside fields item None = fields_members fields ++ needed_by item
fields_beside fields item (Some b) = fields_members fields ++ beside_members (Some b)

abbrev pub wait_members : Wait → Option Beside → List Member
wait_members (Fields fields item) beside = fields_beside fields item beside
wait_members (Faulty reason) beside = fault_members reason ++ beside_members beside
wait_members (Unsure item losses) beside = wait_unsure item losses ++ beside_members beside

abbrev pub of_page : List ℕ → List Member → List Member
of_page page members = word (codes "page") page ∷ members

abbrev pub page_members : PromisedWait → List Member
page_members one = of_page (id_text one.told.page) (wait_members one.told.wait (beside_page one))

unfoldable pub page_record : PromisedWait → List ℕ
page_record one = line (page_members one)

abbrev pub page_records : List PromisedWait → List ℕ
page_records = flat_map page_record

abbrev pub all_fields : ℕ → List Member
all_fields fields = word (codes "page") (codes "all") ∷ fields_members fields

-- the first bad slot, if there is one; otherwise the greatest deadline
abbrev pub all_members : Option ℕ → Option ℕ → List Member
all_members (Some slot) deadline = word (codes "page") (codes "all") ∷ at (codes "bad-slot") slot
all_members None (Some deadline) = all_fields deadline
all_members None None = word (codes "page") (codes "all") ∷ never []

unfoldable pub absent_record : Id → List ℕ
absent_record page = line (word (codes "page") (id_text page) ∷ flag (codes "absent") true ∷ [])

abbrev pub absent_records : List Id → List ℕ
absent_records = flat_map absent_record

-- those of the pages, of all pages together, and of the pages that the service lacks
abbrev pub wait_records : List PromisedWait → Option ℕ → Option ℕ → List Id → List ℕ
wait_records all bad deadline absent = page_records all ++ line (all_members bad deadline) ++ absent_records absent
