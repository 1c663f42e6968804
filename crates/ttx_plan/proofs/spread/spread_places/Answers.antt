use Rattle.std.proofs.Common.{◌≡◌, refl, subst, arith, inl, inr, ◌∙◌}
use Rattle.ttx_plan.specs.Blocks.{placed}
use Rattle.ttx_plan.specs.Carries.{blocks_of}
use Rattle.ttx_plan.specs.Ranges.{IsOften}
use Rattle.ttx_plan.specs.Spreading.{IsSpreadTo}
use Rattle.ttx_plan.proofs.ServicePages.{blocks_often, blocks_size, each_often}
use Rattle.ttx_plan.proofs.OftenNumbers.{half_again}
use Rattle.ttx_plan.proofs.SpreadPages.{spread_in_range}
use Rattle.ttx_plan.proofs.SubpageLists.{zero_each}
use Rattle.ttx_plan.proofs.SpreadPasses.{counted_pass, counted_start, spread_end, spread_pass, spread_start}
use Rattle.ttx_plan.proofs.spread.spread_places.Goals as goal

pub loop-often-init : goal.loop-often-init
loop-often-init c =
    let often = blocks_often c.args.class c.args.service.now.serial c.no_places-places.result c.args.service.now.pages
    c.pages-pages.ensures.ranges.pages in
    record {
      often = inr (record { some = omega arith; most = omega arith; divides = refl });
      enough = c.no_places-places.ensures.length;
      small = λ at. let none = c.no_places-places.ensures.zero at in omega (arith, none);
      spread = spread_start c.args.class c.args.service.now.pages c.no_places-places.result
          (each_often c.args.service.now.serial c.args.service.now.pages c.pages-pages.ensures.ranges.pages);
      counted = counted_start (placed c.no_places-places.result (blocks_of c.args.class c.args.service.now.pages)) often;
      room = λ round. let none = zero_each 8 round in omega (arith, none);
    }

pub loop-often-preserved : goal.loop-often-preserved
loop-often-preserved c =
    let is : IsOften c.loop-often.often = elim c.loop-often.invariant.often [
      | inl none ↦ absurd (omega (arith, none, c.loop-often-test.true))
      | inr some ↦ some
    ] in
    let often = blocks_often c.args.class c.args.service.now.serial c.place_pages.new.places c.args.service.now.pages
    c.pages-pages.ensures.ranges.pages in
    let size = blocks_size c.args.class c.place_pages.new.places c.args.service.now.pages in
    record {
      often = half_again c.loop-often.often is;
      enough = c.place_pages.auto.places ∙ c.loop-often.invariant.enough;
      small = c.place_pages.ensures.small;
      spread = spread_pass c.args.class c.args.service.now.pages c.place_pages.new.places c.loop-often.often _ is
          (each_often c.args.service.now.serial c.args.service.now.pages c.pages-pages.ensures.ranges.pages) refl
          c.place_pages.ensures.spread;
      counted = counted_pass c.place_pages.new.packets (placed c.place_pages.new.places (blocks_of c.args.class c.args.service.now.pages))
          c.loop-often.often _ is often size c.place_pages.ensures.counted;
      room = λ round. omega (arith, c.place_pages.ensures.room round, c.loop-often.invariant.room round, c.loop-often-test.true);
    }

pub returns-clause-spread : goal.returns-clause-spread
returns-clause-spread c =
    let end : c.loop-often.often ≡ 0 = omega (arith, c.loop-often-test.false) in
    spread_end c.args.class c.args.service.now.pages c.loop-often.places
    (each_often c.args.service.now.serial c.args.service.now.pages c.pages-pages.ensures.ranges.pages)
    (subst (λ o. IsSpreadTo c.args.class c.args.service.now.pages c.loop-often.places o 0) end c.loop-often.invariant.spread)

pub returns-clause-places : goal.returns-clause-places
returns-clause-places c =
    let end : c.loop-often.often ≡ 0 = omega (arith, c.loop-often-test.false) in
    spread_in_range c.args.class c.loop-often.places c.args.service.now.pages
    (spread_end c.args.class c.args.service.now.pages c.loop-often.places
    (each_often c.args.service.now.serial c.args.service.now.pages c.pages-pages.ensures.ranges.pages)
    (subst (λ o. IsSpreadTo c.args.class c.args.service.now.pages c.loop-often.places o 0) end c.loop-often.invariant.spread))
