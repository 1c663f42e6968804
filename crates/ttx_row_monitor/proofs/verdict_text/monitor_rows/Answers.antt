use Rattle.std.proofs.Common.{◌∙◌, ap, subst}
use Rattle.ttx_cycle.specs.Counters.{inner_of}
use Rattle.ttx_certify.specs.Laws.{ArePages}
use Rattle.ttx_certify.proofs.PageByPage.{are_pages}
use Rattle.ttx_monitor.proofs.HeardFeeds.{if_known}
use Rattle.ttx_row_monitor.specs.RowLines.{row_verdict_text}
use Rattle.ttx_row_monitor.proofs.verdict_text.monitor_rows.Goals as goal

pub returns-in-Ok-clause-bytes : goal.returns-in-Ok-clause-bytes
returns-in-Ok-clause-bytes g c =
    if_known _ _ (g.R.Read.remaining (inner_of c.args.feed.now))
    (λ bytes exact. record {
      exact = exact (subst ArePages c.pages.ensures.value (are_pages c.pages_keep_their_rules.ensures c.pages.result.now));
      text_is = c.in-Ok.ensures ∙ ap (λ pages. row_verdict_text pages c.in_ok-verdict.verdict) c.pages.ensures.value;
    })
    c.in_ok-verdict.ensures.bytes
