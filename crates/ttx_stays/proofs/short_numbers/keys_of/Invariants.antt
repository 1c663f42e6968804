use Rattle.std.proofs.Common.{◌≡◌, map, take}
use Rattle.ttx_page.specs.Views.{page_of}
use Rattle.ttx_stays.specs.ShortNumbers.{key_of}
use Rattle.ttx_stays.proofs.short_numbers.keys_of.Given as goal

abbrev pub invariant-loop-page : goal.invariant-loop-page
invariant-loop-page l = l.keys.items ≡ map key_of (map page_of (take l.page-index l.pages))
