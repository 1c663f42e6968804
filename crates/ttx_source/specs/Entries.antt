-- The entries of a page's table.
--
--   AreFound      each place has the value at its key
use Rattle.std.specs.Prelude.{◌≡◌, map, option_map}
use Rattle.toml.specs.Data.{get_member}
use Rattle.toml.specs.View.{table_view, view}
use Rattle.ttx_source.specs.Accepted.{key_names}
use Rattle.ttx_source.specs.declared.page_entries.PageEntries.{PageEntries}

abbrev pub AreFound : PageEntries → Type 0
AreFound page = map (option_map (λ v. view v.now)) page.values ≡ map (λ key. get_member key (table_view page.table.now)) key_names
