use Rattle.std.proofs.Common.{◌≡◌, ℕ, ◌⊎◌, inl, inr, ◌==◌, ◌&&◌, false, refl, arith}
use Rattle.std.proofs.lemmas.Bool.Decides.{nat_tests}
use Rattle.ttx_links.proofs.targets.Target.new.Goals as goal

is_link : (page sub : ℕ) → ((page ≡ 255) × (sub ≡ 16255 → ⊥)) ⊎ (page ≡ 255 → ⊥) → ((page == 255) && (sub == 16255)) ≡ false
is_link page sub (inl (e, n)) = grind (arith, nat_tests)
is_link page sub (inr n) = grind (arith, nat_tests)

pub invariant_of-result : goal.invariant_of-result
invariant_of-result c = record {
  ranges = record {
    mag_from = c.if-mag-ge1.true;
    mag_to = c.if-mag-le8.true;
    page = c.ranges.page.fits;
    sub = record { top = c.if-sub-lt16384.true; gap = c.if-sub-eq0.true };
  };
  link = is_link c.args.page c.args.sub c.if-not-sub.either;
}

pub returns-then-not-sub : goal.returns-then-not-sub
returns-then-not-sub c = (invariant_of-result c, refl)
