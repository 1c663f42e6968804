use Rattle.ttx_page.specs.Streams.{repeated}
use Rattle.ttx_counter.specs.Rule.{IsCursor}
use Rattle.ttx_counter.specs.Hearing.{IsHeard}
use Rattle.ttx_counter.proofs.scripted_receiver.hear.Given as goal

abbrev pub invariant-loop-i : goal.invariant-loop-i
invariant-loop-i l = record {
  cursor : IsCursor l.keys l.i l.from;
  heard : IsHeard (repeated l.slots) l.run.start l.i l.keys l.initial.receiver l.receiver;
}
