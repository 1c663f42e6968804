use Rattle.std.proofs.Common.{refl}
use Rattle.ttx_header.proofs.ids.PageId.new.Goals as goal

pub invariant_of-result : goal.invariant_of-result
invariant_of-result c = record {
  mag_from = c.if-mag-ge1.true;
  mag_to = c.if-mag-le8.true;
  page = c.ranges.page.fits;
  sub = record { top = c.if-sub-lt16384.true; gap = c.if-sub-eq0.true };
}

pub returns-then-sub-eq0 : goal.returns-then-sub-eq0
returns-then-sub-eq0 c = (invariant_of-result c, refl)
