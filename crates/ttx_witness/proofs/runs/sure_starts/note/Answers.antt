use Rattle.std.proofs.Common.{None, ◌∙◌, ap, sym}
use Rattle.ttx_witness.specs.runs.SureStarts.{sure_starts, spread_of}
use Rattle.ttx_witness.specs.runs.Tracks.{ended, listed}
use Rattle.ttx_witness.proofs.lemmas.runs.OneMore.{found_more}
use Rattle.ttx_witness.proofs.runs.sure_starts.note.Goals as goal

pub returns : goal.returns
returns c = λ k ts i.
    let e = c.push-run.ensures.run k ts i.recent in
    let f = found_more (ended k ts) (listed c.push-run.result) c.args.found.now.starts.items c.args.found.now.spread
    c.keep_start.new.found.starts.items c.keep_start.new.found.spread
    (record { starts = i.starts; spread = i.spread }) c.in_ok-keep_start.ensures.starts c.in_ok-keep_start.ensures.spread in
    record {
      recent = c.push-run.ensures.held k ts i.recent;
      starts = f.starts ∙ ap sure_starts (sym e);
      spread = f.spread ∙ ap (spread_of None) (sym e);
    }
