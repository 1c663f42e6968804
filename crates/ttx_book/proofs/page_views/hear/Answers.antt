use Rattle.std.proofs.Common.{◌≡◌, ◌∙◌, ◌+◌, ap, arith, drop, get_or}
use Rattle.ttx_book.specs.Hearing.{hears}
use Rattle.ttx_book.specs.Placing.{place_from}
use Rattle.ttx_book.proofs.Placed.{from_first, place_hits, one_heard}
use Rattle.ttx_book.proofs.page_views.hear.Goals as goal

pub loop-at-init : goal.loop-at-init
loop-at-init c =
    let slots = c.args.slots.now in let pages = c.args.pages.now in let key = c.args.key in
    record {
      rest = ap (λ n. hears key c.args.receiver.now (drop n slots) (drop n pages)) c.first-at.ensures
          ∙ from_first key slots pages c.requires 0 c.args.receiver.now;
      own = λ l. ap (λ n. get_or pages n 0) c.first-at.ensures ∙ place_hits key slots pages c.requires 0 (omega (arith, l, c.first-at.ensures));
    }

pub loop-at-preserved : goal.loop-at-preserved
loop-at-preserved c =
    let slots = c.args.slots.now in let pages = c.args.pages.now in let key = c.args.key in let at = c.loop-at.at in
    let own : get_or pages at 0 ≡ key = c.loop-at.invariant.own (omega (arith, c.loop-at-test.true, c.requires)) in
    let next : c.after-at.result ≡ place_from (at + 1) key pages = c.after-at.ensures ∙ ap (λ k. place_from (at + 1) k pages) own in
    record {
      rest = ap (λ n. hears key c.step.new.self (drop n slots) (drop n pages)) next
          ∙ ap (λ r. hears key r (drop (place_from (at + 1) key pages) slots) (drop (place_from (at + 1) key pages) pages)) c.step.ensures.value
          ∙ one_heard key slots pages c.requires at c.loop-at.receiver c.loop-at-test.true own
          ∙ c.loop-at.invariant.rest;
      own = λ l. ap (λ n. get_or pages n 0) next ∙ place_hits key slots pages c.requires (at + 1) (omega (arith, l, next));
    }
