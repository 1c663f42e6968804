use Rattle.std.proofs.Common.{refl}
use Rattle.ttx_witness.specs.runs.Tracks.{held_in}
use Rattle.ttx_witness.proofs.lemmas.runs.OneMore.{recent_step, run_step}
use Rattle.ttx_witness.proofs.runs.window.push.Goals as goal

pub returns-clause-held : goal.returns-clause-held
returns-clause-held c = λ k ts i.
    let old = held_in c.args.recent.now in
    recent_step k ts c.args.t old (record { repeat = old.repeat; window = c.take_next.new.window.items; firsts = c.keep_first.new.firsts.items }) i
    c.take_next.ensures.kept refl c.keep_first.ensures

pub returns-clause-run : goal.returns-clause-run
returns-clause-run c = λ k ts i.
    run_step k ts c.args.t (held_in c.args.recent.now)
    (record { repeat = c.args.recent.now.repeat; window = c.take_next.new.window.items; firsts = c.keep_first.new.firsts.items }) i
    c.take_next.ensures.kept c.take_next.result c.take_next.ensures.run
