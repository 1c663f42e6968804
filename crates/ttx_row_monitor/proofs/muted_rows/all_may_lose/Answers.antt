use Rattle.std.proofs.Common.{◌≡◌, true, refl, sym, ap, ◌∙◌, arith}
use Rattle.std.proofs.lemmas.Bool.{both_ways}
use Rattle.ttx_page.specs.Packets.{packet_of}
use Rattle.ttx_page.specs.Views.{page_of}
use Rattle.ttx_rows.specs.RowReceptions.{may_be_lost}
use Rattle.ttx_row_monitor.proofs.LostPackets.{page_here, each_more, each_page}
use Rattle.ttx_row_monitor.proofs.muted_rows.all_may_lose.Goals as goal

pub returns-then-not-may_be_lost : goal.returns-then-not-may_be_lost
returns-then-not-may_be_lost c =
    let x = c.index-pages-i.result in
    let is = c.may_be_lost.ensures ∙ ap (λ m. may_be_lost m (packet_of c.args.sent.now)) (c.mag.ensures.value ∙ ap (λ id. id.mag) c.id.ensures) in (
      (λ h. absurd (both_ways _ refl h)),
      (λ all. absurd (both_ways _ c.if-not-may_be_lost.true
          (is ∙ all c.loop-i.i (page_of x) (page_here c.args.pages.now c.loop-i.i x c.loop-i-test.true c.index-pages-i.is)))),
    )

pub loop-i-preserved : goal.loop-i-preserved
loop-i-preserved c =
    let x = c.index-pages-i.result in
    let is = c.may_be_lost.ensures ∙ ap (λ m. may_be_lost m (packet_of c.args.sent.now)) (c.mag.ensures.value ∙ ap (λ id. id.mag) c.id.ensures) in
    each_more (λ p. may_be_lost p.id.mag (packet_of c.args.sent.now) ≡ true) c.args.pages.now c.loop-i.i x c.loop-i-test.true c.index-pages-i.is
    (sym is ∙ c.if-not-may_be_lost.false) c.loop-i.invariant

pub returns : goal.returns
returns c = (
  (λ _. each_page (λ p. may_be_lost p.id.mag (packet_of c.args.sent.now) ≡ true) c.args.pages.now c.loop-i.i (omega arith) c.loop-i.invariant),
  (λ _. refl),
)
