use Rattle.std.proofs.Common.{◌∙◌, ap, sym}
use Rattle.ttx_certificate.specs.Entries.{rises, entry_places}
use Rattle.ttx_certificate.specs.EntryViews.{entries_of}
use Rattle.ttx_certificate.proofs.certificates.Certificate.new.Goals as goal

pub of-requires-clause-rising : goal.of-requires-clause-rising
of-requires-clause-rising c =
    ap (λ entries. rises (entry_places (entries_of entries))) (sym c.as_slice.ensures.value) ∙ sym c.are_in_order.ensures ∙ c.if-are_in_order.true
