-- What the warnings about the traffic of a service need to know of its pages.
--
--   shown_rows, packets_of_page    the rows that a viewer sees; the packets of one copy of a page
--   queue_entry, queue_entries    a page with how often it is sent and its packets in a cycle; those of a service
--   packets_of_magazine, traffic    the packets of a magazine, and of all pages
use Rattle.std.specs.Prelude.{ℕ, zero, suc, ◌+◌, ◌*◌, List, map, sum_by, ◌==◌, if◌then◌else◌}
use Rattle.ttx_page.specs.declared.item.Item.TheVariants.{Row as TheRow}
use Rattle.ttx_page.specs.Pages.{Page, needed}
use Rattle.ttx_source.specs.Services.{Authored, ServiceFields}
use Rattle.ttx_check.specs.declared.entries.Entry.{Entry}

-- how many of rows 1 to n a viewer sees
abbrev pub shown_rows : Page → ℕ → ℕ
shown_rows p zero = 0
shown_rows p (suc n) = shown_rows p n + (if needed p (TheRow (suc n)) then 1 else 0)

-- the page header, the rows that a viewer sees, and X/27/0
abbrev pub packets_of_page : Page → ℕ
packets_of_page p = shown_rows p 24 + 2

abbrev pub queue_entry : Authored → Entry
queue_entry a = record { id = a.page.id; often = a.often; packets = a.often * packets_of_page a.page }

abbrev pub queue_entries : ServiceFields → List Entry
queue_entries service = map queue_entry service.pages

abbrev pub packets_of_magazine : ℕ → Entry → ℕ
packets_of_magazine mag e = if e.id.mag == mag then e.packets else 0

-- the packets of a magazine in a cycle
abbrev pub traffic : ℕ → List Entry → ℕ
traffic mag entries = sum_by (packets_of_magazine mag) entries

abbrev pub all_traffic : List Entry → ℕ
all_traffic entries = sum_by (λ e. e.packets) entries
