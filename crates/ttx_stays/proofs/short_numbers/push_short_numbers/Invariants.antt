use Rattle.std.proofs.Common.{◌≡◌, ℕ, ◌++◌, map, string_bytes}
use Rattle.ttx_page.specs.Views.{page_of}
use Rattle.ttx_source.specs.PromiseViews.{promise_view}
use Rattle.ttx_tallies.specs.Tallies.{times_in}
use Rattle.ttx_stays.specs.ShortNumbers.{short_lines_to}
use Rattle.ttx_stays.proofs.CountedNumbers.{still_counted}
use Rattle.ttx_stays.proofs.short_numbers.push_short_numbers.Given as goal

abbrev pub invariant-loop-page : goal.invariant-loop-page
invariant-loop-page l = record {
  text : string_bytes l.text ≡ string_bytes l.initial.text ++ short_lines_to (map page_of l.pages) (map promise_view l.stays) l.page-index;
  counts : (n : ℕ) → times_in l.counts n ≡ still_counted l.pages l.page-index n;
}
