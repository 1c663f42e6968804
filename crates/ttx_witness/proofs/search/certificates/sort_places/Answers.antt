use Rattle.std.proofs.Common.{rules}
use Rattle.std.proofs.lemmas.List.Sorted.{IsNonDecreasingBy-from_sort_by_key}
use Rattle.ttx_certificate.specs.EntryViews.{place_in}
use Rattle.ttx_witness.proofs.lemmas.search.LeastDeadline.{pairs_sorted, places_rise}
use Rattle.ttx_witness.proofs.search.certificates.sort_places.Goals as goal

pub returns-in-Ok-clause-rising : goal.returns-in-Ok-clause-rising
returns-in-Ok-clause-rising c =
    let sorted = c.sort_by_key.new.self.items in
    places_rise sorted (IsNonDecreasingBy-from_sort_by_key place_in sorted c.in-Ok.ensures.sorted (λ a r k called. search rules))
    (pairs_sorted c.args.entries.now.items sorted c.sort_by_key.ensures.permutation c.requires.apart)
