use Rattle.std.proofs.Common.{◌≡◌, sym, ap, ◌∙◌, arith}
use Rattle.std.proofs.lemmas.List.{append-nil}
use Rattle.ttx_page.specs.Views.{page_of}
use Rattle.ttx_plan.specs.Contents.{sent_rows}
use Rattle.ttx_plan.proofs.block.rest_packets.Goals as goal
use Rattle.ttx_plan.proofs.block.rest_packets.Goals.{then-are_links_sent_to+in_ok-push-2, else-are_links_sent_to}

pub returns-clause-rest : goal.returns-clause-rest
returns-clause-rest c =
    let last : c.loop-above.above ≡ 24 = omega arith in
    let page = page_of c.args.page.now in
    let rows : c.loop-above.rest.items ≡ sent_rows c.args.class page 24 = c.loop-above.invariant.rest ∙ ap (sent_rows c.args.class page) last in
    elim c.if-are_links_sent_to.branch [
      | then-are_links_sent_to+in_ok-push-2 w ↦
          let sent = sym c.are_links_sent_to.ensures ∙ w.if-are_links_sent_to.true in
          rw (w.rest-is, w.in_ok-push-2.ensures.items, rows, w.links_packet.ensures, sent)
      | else-are_links_sent_to w ↦
          let sent = sym c.are_links_sent_to.ensures ∙ w.if-are_links_sent_to.false in
          rw (w.rest-is, rows, sent) (sym (append-nil (sent_rows c.args.class page 24)))
    ]
