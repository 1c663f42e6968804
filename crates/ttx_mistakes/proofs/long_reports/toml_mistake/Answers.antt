use Rattle.std.proofs.Common.{arith}
use Rattle.ttx_mistakes.proofs.long_reports.toml_mistake.Goals as goal

pub returns : goal.returns
returns c = record {
  reason = c.message-reason.result.now;
  within = (let r = c.in-Some.ensures.range in let s = c.in-Err.ensures.span in
      let a = r.0 in let b = s.0 in let d = s.1 in omega arith);
  words_are = c.in_ok-words.ensures;
  first_is = c.in_ok-first.ensures;
}
