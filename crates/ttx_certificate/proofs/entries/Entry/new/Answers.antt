use Rattle.std.proofs.Common.{◌∙◌, ap, sym}
use Rattle.ttx_certificate.specs.Entries.{are_starts}
use Rattle.ttx_certificate.proofs.entries.Entry.new.Goals as goal

pub of-requires-clause-page : goal.of-requires-clause-page
of-requires-clause-page c = sym c.is_page_id.ensures.value ∙ c.if-is_page_id.true

pub of-requires-clause-starts : goal.of-requires-clause-starts
of-requires-clause-starts c = ap are_starts (sym c.as_slice.ensures) ∙ sym c.are_starts.ensures ∙ c.if-are_starts.true
