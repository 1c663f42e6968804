-- The warnings about a service, in their order: about the initial page, about its pages in authored order, about its magazines.
--
--   initial_link, initial_warnings          the initial page of packet 8/30
--   is_most, serial_warnings        a magazine with more than half of the packets, in serial transmission
--   warnings                all of them
use Rattle.std.specs.Prelude.{ℕ, zero, suc, ◌*◌, Bool, ◌&&◌, nat_lt, if◌then◌else◌, List, [], ◌++◌, Option, Some, None}
use Rattle.ttx_header.specs.Ids.{Id}
use Rattle.ttx_tallies.specs.Tallies.{times_among}
use Rattle.ttx_info.specs.Infos.{InfoFields}
use Rattle.ttx_source.specs.Services.{ServiceFields, pages_of}
use Rattle.ttx_check.specs.Entries.{queue_entries, traffic, all_traffic}
use Rattle.ttx_check.specs.Queues.{behind_subpages, behind_copies}
use Rattle.ttx_check.specs.PageWarnings.{is_dead, only_if, pages_from}
use Rattle.ttx_check.specs.declared.entries.Entry.{Entry}
use Rattle.ttx_check.specs.declared.warning.Warning.{Warning}
use Rattle.ttx_check.specs.declared.warning.Warning.TheVariants.{DeadInitial, MostTraffic}

abbrev pub initial_link : Option InfoFields → Option Id
initial_link None = None
initial_link (Some info) = info.initial

abbrev pub initial_warnings : List Entry → Option InfoFields → List Warning
initial_warnings entries info = only_if (is_dead entries (initial_link info)) DeadInitial

-- more than half of all packets, and not all
abbrev pub is_most : List Entry → ℕ → Bool
is_most entries mag = nat_lt (all_traffic entries) (2 * traffic mag entries) && nat_lt (traffic mag entries) (all_traffic entries)

-- those about the first n magazines
abbrev pub most_to : List Entry → ℕ → List Warning
most_to entries zero = []
most_to entries (suc n) = most_to entries n ++ only_if (is_most entries (suc n)) (MostTraffic (suc n))

abbrev pub serial_warnings : Bool → List Entry → List Warning
serial_warnings serial entries = if serial then most_to entries 8 else []

-- all of them, from how often a page is sent directly behind another subpage, and directly behind itself
abbrev pub warnings_by : ServiceFields → List Entry → (ℕ → ℕ) → (ℕ → ℕ) → List Warning
warnings_by service entries subpages copies =
    initial_warnings entries service.info ++ pages_from entries subpages copies 0 (pages_of service) ++ serial_warnings service.serial entries

abbrev pub warnings_of : ServiceFields → List Entry → List Warning
warnings_of service entries =
    warnings_by service entries (times_among (behind_subpages entries)) (times_among (behind_copies service.serial entries))

abbrev pub warnings : ServiceFields → List Warning
warnings service = warnings_of service (queue_entries service)
