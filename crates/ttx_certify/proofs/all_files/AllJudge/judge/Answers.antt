use Rattle.ttx_certify.proofs.all_files.AllJudge.judge.Goals as goal

pub returns-in-Ok-all_text : goal.returns-in-Ok-all_text
returns-in-Ok-all_text c = record {
  exact = c.in-Ok.ensures.exact;
  seen = c.in-Ok.ensures.seen;
  told = c.in-Ok.all.pages.items;
  reasons = c.in-Ok.ensures.reasons;
  text_is = c.in-Ok-all_text.ensures;
}
