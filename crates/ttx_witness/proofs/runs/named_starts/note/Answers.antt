use Rattle.std.proofs.Common.{◌∙◌, ap, sym}
use Rattle.ttx_witness.specs.runs.Confirming.{after_runs, not_begun}
use Rattle.ttx_witness.specs.runs.Tracks.{ended, listed}
use Rattle.ttx_witness.proofs.lemmas.runs.OneMore.{after_more}
use Rattle.ttx_witness.proofs.runs.named_starts.note.Goals as goal

pub returns : goal.returns
returns c = λ k ts i. record {
  recent = c.push-run.ensures.held k ts i.recent;
  progress = c.progress_after-track.ensures
      ∙ ap (λ m. after_runs c.args.limit c.args.starts.now m (listed c.push-run.result)) i.progress
      ∙ sym (after_more c.args.limit c.args.starts.now not_begun (ended k ts) (listed c.push-run.result))
      ∙ ap (after_runs c.args.limit c.args.starts.now not_begun) (sym (c.push-run.ensures.run k ts i.recent));
}
