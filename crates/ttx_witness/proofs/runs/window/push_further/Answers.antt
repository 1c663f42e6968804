use Rattle.std.proofs.Common.{◌+◌, refl}
use Rattle.ttx_witness.specs.runs.Tracks.{held_in}
use Rattle.ttx_witness.proofs.lemmas.runs.AfterThePeriod.{turn_length, turn_within, round_step}
use Rattle.ttx_witness.proofs.runs.window.push_further.Goals as goal

pub returns-clause-count : goal.returns-clause-count
returns-clause-count c = turn_length c.args.period c.args.recent.now.firsts.items c.turn-t.new.firsts.items c.turn-t.result c.turn-t.ensures

pub returns-clause-within : goal.returns-clause-within
returns-clause-within c = λ bound w.
    turn_within c.args.period bound (bound + 65536) c.args.recent.now.firsts.items c.turn-t.new.firsts.items c.turn-t.result
    c.requires.short refl c.turn-t.ensures w

pub returns-clause-round : goal.returns-clause-round
returns-clause-round c = λ k i ts rs lt r.
    round_step k c.args.period i ts rs (held_in c.args.recent.now)
    (record { repeat = c.args.recent.now.repeat; window = c.take_next.new.window.items; firsts = c.turn-t.new.firsts.items })
    c.turn-t.result c.take_next.result lt r c.turn-t.ensures refl c.take_next.ensures.kept c.take_next.ensures.run
