use Rattle.std.proofs.lemmas.List.Sorted.{IsPermutation-trans}
use Rattle.ttx_witness.proofs.lemmas.search.LeastDeadline.{pairs_sorted}
use Rattle.ttx_witness.proofs.search.certificates.sort_entries.Goals as goal

pub sort_places-requires : goal.sort_places-requires
sort_places-requires c = record {
  apart = pairs_sorted c.args.entries.now.items c.sort_magazines.new.entries.items c.sort_magazines.ensures c.requires.apart;
}

pub returns-clause-same : goal.returns-clause-same
returns-clause-same c = IsPermutation-trans c.args.entries.now.items c.sort_magazines.new.entries.items c.sort_places.new.entries.items
    c.sort_magazines.ensures c.sort_places.ensures.same
