use Rattle.std.proofs.Common.{sym}
use Rattle.ttx_source.proofs.PageList.{same_length, authored_pages-pages, authored_pages-length}
use Rattle.ttx_source.proofs.services.Service.pages.Goals as goal

pub returns-clause-value : goal.returns-clause-value
returns-clause-value c =
    rw (c.as_slice.ensures.value, ← c.self.view_is) (sym (authored_pages-pages _ _ (same_length _ _ c.self.invariant.same_order)))

pub returns-clause-count : goal.returns-clause-count
returns-clause-count c =
    rw (c.as_slice.ensures.value, ← c.self.view_is) (sym (authored_pages-length _ _ (same_length _ _ c.self.invariant.same_order)))
