use Rattle.std.proofs.Common.{◌+◌, if◌then◌else◌, nat_lt, ◌++◌, ◌∷◌, [], length, ap, ◌∙◌}
use Rattle.ttx_witness.specs.runs.Tracks.{held_in_ring}
use Rattle.ttx_witness.proofs.lemmas.runs.OneMore.{recent_step, run_step}
use Rattle.ttx_witness.proofs.runs.ring.push.Goals as goal

pub returns-clause-held : goal.returns-clause-held
returns-clause-held c = λ k ts i.
    recent_step k ts c.args.t (held_in_ring c.args.ring.now) (record { repeat = c.take_next.new.window.capacity; window = c.take_next.new.window.items; firsts = c.keep_first.new.firsts.items }) i
    (λ _ _. c.take_next.ensures.kept) c.take_next.ensures.repeat
    (c.keep_first.ensures
    ∙ ap (λ n. let xs = c.args.ring.now.firsts.items in if nat_lt (length xs + 1) n then xs ++ c.args.t ∷ [] else xs) c.capacity.ensures.capacity)

pub returns-clause-run : goal.returns-clause-run
returns-clause-run c = λ k ts i.
    run_step k ts c.args.t (held_in_ring c.args.ring.now) (record { repeat = c.take_next.new.window.capacity; window = c.take_next.new.window.items; firsts = c.keep_first.new.firsts.items }) i
    (λ _ _. c.take_next.ensures.kept) c.take_next.result c.take_next.ensures.run
