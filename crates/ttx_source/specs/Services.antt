-- The service in a TOML text, or its first fault. The keys are tested in this order (profile).
--
--   Authored, ServiceFields         a page with how often it is sent; a service as contracts see it
--   often_set, with_often           pages and a service, with one page sent so often
--   pages_of                        its pages alone
--   IsService                       the ranges of a service
--   id_of_table, authored_of        a page from its table
--   settings_of, with_pages         a service without its pages, and with the pages of some tables added
--   service_of, read_bytes          the service in a table, and in a text
use Rattle.std.specs.Prelude.{◌≡◌, ◌≢◌, ℕ, zero, suc, ◌+◌, ◌≤◌, ◌++◌, List, [], ◌∷◌, codes, length, map, Bool, true}
use Rattle.std.specs.Prelude.{◌&&◌, Option, Result, Ok, Err, if◌then◌else◌, nat_lt, is_some}
use Rattle.std.specs.List.{list_any, All, AllPairs}
use Rattle.toml.specs.Data.{Data, Items, no_items, item, Members, as_str, as_array, as_table}
use Rattle.ttx_header.specs.Ids.{Id, id_at, same_id}
use Rattle.ttx_header.specs.Control.{c11}
use Rattle.ttx_info.specs.Infos.{InfoFields}
use Rattle.ttx_page.specs.Pages.{Page, page_at, IsPage}
use Rattle.ttx_source.specs.Documents.{document_of, or_not_toml}
use Rattle.ttx_source.specs.Values.{Fault, out_of_range, wrong_kind, duplicate, ◌>>=◌}
use Rattle.ttx_source.specs.Values.{of_kind, required, with_default, page_number, subcode}
use Rattle.ttx_source.specs.Keys.{lines, serial, info, often, is_often, control_of_table, head, rows, links_of_table, count, zeros}

-- a page, and how often it is sent
pub record Authored : Type 0 where
  pub page : Page
  pub often : ℕ

abbrev pub authored_at : Page → ℕ → Authored
authored_at page often = record { page = page; often = often }

-- A service: the slots in a field, serial or parallel transmission, its packet 8/30, and its pages in authored order.
pub record ServiceFields : Type 0 where
  pub lines : ℕ
  pub serial : Bool
  pub info : Option InfoFields
  pub pages : List Authored

abbrev pub service_at : ℕ → Bool → Option InfoFields → List Authored → ServiceFields
service_at lines serial info pages = record { lines = lines; serial = serial; info = info; pages = pages }

-- the service with one more page at its end
abbrev pub with_page : ServiceFields → Authored → ServiceFields
with_page service page = service_at service.lines service.serial service.info (service.pages ++ page ∷ [])

-- the pages, the one at an index sent so often
abbrev pub often_set : List Authored → ℕ → ℕ → List Authored
often_set [] index often = []
often_set (page ∷ pages) zero often = authored_at page.page often ∷ pages
often_set (page ∷ pages) (suc index) often = page ∷ often_set pages index often

-- the service, the page at an index sent so often
abbrev pub with_often : ServiceFields → ℕ → ℕ → ServiceFields
with_often service index often = service_at service.lines service.serial service.info (often_set service.pages index often)

abbrev pub pages_of : ServiceFields → List Page
pages_of service = map (λ p. p.page) service.pages

abbrev pub authored_ids : List Authored → List Id
authored_ids pages = map (λ p. p.page.id) pages

-- a page in its ranges, with C11 as the service has it, sent 1, 2, 4 or 8 times
pub record IsAuthored (serial : Bool) (authored : Authored) : Type 0 where
  pub page : IsPage authored.page
  pub c11 : c11 authored.page.control ≡ serial
  pub often : is_often authored.often ≡ true

-- 1 to 32 lines, at most 2,000 pages, and no id twice
pub record IsService (service : ServiceFields) : Type 0 where
  pub lines_from : 1 ≤ service.lines
  pub lines_to : service.lines ≤ 32
  pub count : length service.pages ≤ 2000
  pub pages : All (IsAuthored service.serial) service.pages
  pub distinct : AllPairs (λ a b. a ≢ b) (authored_ids service.pages)

-- whether a page of the list has the id
abbrev pub has_id : List Authored → Id → Bool
has_id pages id = list_any (same_id id) (authored_ids pages)

abbrev pub new_id : List Authored → Id → Result Id Fault
new_id earlier id = if has_id earlier id then Err duplicate else Ok id

-- the id of a page; no earlier page has it
unfoldable pub id_of_table : List Authored → Members → Result Id Fault
id_of_table earlier table = do
  number ← required (codes "number") as_str table >>= page_number
  sub ← with_default (codes "sub") as_str zeros table >>= subcode
  new_id earlier (id_at number.0 number.1 sub)

-- a page of a service, given the earlier pages
unfoldable pub authored_of : Bool → List Authored → Members → Result Authored Fault
authored_of is_serial earlier table = do
  id ← id_of_table earlier table
  times ← often table
  control ← control_of_table is_serial table
  characters ← head table
  texts ← rows table
  links ← links_of_table table
  Ok (authored_at (page_at id control characters texts links.set links.crc) times)

-- a fault and the page it is in, counted from 1; 0 outside pages
abbrev pub in_page : {A : Type 0} → ℕ → Result A Fault → Result A (Fault × ℕ)
in_page page (Ok a) = Ok a
in_page page (Err fault) = Err (fault, page)

abbrev pub next_page : ServiceFields → Data → Result Authored (Fault × ℕ)
next_page service value =
    in_page 0 (of_kind (codes "page") as_table value)
    >>= (λ table. in_page (length service.pages + 1) (authored_of service.serial service.pages table))

-- the service with the pages of an array added
unfoldable pub with_pages : ServiceFields → Items → Result ServiceFields (Fault × ℕ)
with_pages service no_items = Ok service
with_pages service (item value values) = next_page service value >>= (λ page. with_pages (with_page service page) values)

-- each item is a table
abbrev pub are_tables : Items → Bool
are_tables no_items = true
are_tables (item value values) = is_some (as_table value) && are_tables values

-- at most 2,000 tables
abbrev pub tables_in : Items → Result Items Fault
tables_in values =
    if nat_lt 2000 (count values) then Err (out_of_range (codes "page"))
    else if are_tables values then Ok values
    else Err (wrong_kind (codes "page"))

abbrev pub page_tables : Members → Result Items Fault
page_tables table = with_default (codes "page") as_array no_items table >>= tables_in

-- the service of a table, without its pages
unfoldable pub settings_of : Members → Result ServiceFields Fault
settings_of table = do
  slots ← lines table
  is_serial ← serial table
  packet ← info table
  Ok (service_at slots is_serial packet [])

-- the service in a table, or its first fault
unfoldable pub service_of : Members → Result ServiceFields (Fault × ℕ)
service_of table = do
  service ← in_page 0 (settings_of table)
  pages ← in_page 0 (page_tables table)
  with_pages service pages

abbrev pub service_in : Option Members → Result ServiceFields (Fault × ℕ)
service_in document = or_not_toml document >>= service_of

-- the service in a text, which must be UTF-8 and a TOML document
abbrev pub read_bytes : List ℕ → Result ServiceFields (Fault × ℕ)
read_bytes bytes = service_in (document_of bytes)
