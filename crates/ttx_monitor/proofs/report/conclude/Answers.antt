use Rattle.std.proofs.Common.{refl, ◌∙◌, ap}
use Rattle.ttx_cycle.specs.Counters.{inner_of}
use Rattle.ttx_monitor.specs.Followed.{telling_of}
use Rattle.ttx_monitor.specs.FeedReports.{rest_of}
use Rattle.ttx_monitor.specs.Wordings.{last_text}
use Rattle.ttx_monitor.proofs.ReportedFeeds.{reported, half_reported}
use Rattle.ttx_monitor.proofs.report.conclude.Goals as goal

pub returns-in-Ok-write_bytes-clause-bytes : goal.returns-in-Ok-write_bytes-clause-bytes
returns-in-Ok-write_bytes-clause-bytes g c = λ cycle pages cert bytes old is_cycle are is_cert h.
    let mid = g.W.Write.contents (inner_of c.args.writer.now) in
    reported cycle pages cert bytes (telling_of g.V.Wording.words c.args.how.now) old mid (g.W.Write.contents (inner_of c.write_bytes.new.writer))
    c.verdict_at-verdict.result c.args.following.now.tally (rest_of c.args.followed) _ (c.as_bytes.ensures.value ∙ c.in-Ok.ensures
    ∙ ap (λ r. last_text (telling_of g.V.Wording.words c.args.how.now) c.args.following.now.tally r c.verdict_at-verdict.result) c.rest_of.ensures)
    (c.verdict_at-verdict.ensures cycle pages cert bytes (telling_of g.V.Wording.words c.args.how.now) old mid is_cycle are is_cert refl h)
    c.in-Ok-write_bytes.ensures.bytes

pub returns-clause-bytes : goal.returns-clause-bytes
returns-clause-bytes g c = λ cycle pages cert bytes old is_cycle are is_cert h.
    let mid = g.W.Write.contents (inner_of c.args.writer.now) in
    half_reported cycle pages cert bytes (telling_of g.V.Wording.words c.args.how.now) old mid (g.W.Write.contents (inner_of c.write_bytes.new.writer))
    c.verdict_at-verdict.result c.args.following.now.tally (rest_of c.args.followed) _ c.in-Err.fault.written (c.as_bytes.ensures.value ∙ c.in-Ok.ensures
    ∙ ap (λ r. last_text (telling_of g.V.Wording.words c.args.how.now) c.args.following.now.tally r c.verdict_at-verdict.result) c.rest_of.ensures)
    (c.verdict_at-verdict.ensures cycle pages cert bytes (telling_of g.V.Wording.words c.args.how.now) old mid is_cycle are is_cert refl h)
    c.in-Err.ensures.bytes.0 c.in-Err.ensures.bytes.1
