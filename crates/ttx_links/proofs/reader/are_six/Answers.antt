use Rattle.std.proofs.Common.{arith}
use Rattle.ttx_links.proofs.ExactLinks.{six_tests}
use Rattle.ttx_links.proofs.SentLinks.{six_parts}
use Rattle.ttx_links.proofs.reader.are_six.Goals as goal

pub returns : goal.returns
returns c =
    six_tests c.is_link.result c.is_link-2.result c.is_link-3.result c.is_link-4.result c.is_link-5.result c.is_link-6.result _ _ _ _ _ _ _ _ _ _ _ _
    _ _ _ _ _ _ _ c.args.six.now (omega arith) (six_parts c.args.bytes.now) c.is_link.ensures c.is_link-2.ensures c.is_link-3.ensures
    c.is_link-4.ensures c.is_link-5.ensures c.is_link-6.ensures
