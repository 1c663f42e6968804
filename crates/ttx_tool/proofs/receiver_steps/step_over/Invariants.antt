use Rattle.std.proofs.Common.{◌≡◌, ◌+◌, ◌%◌, pos, length}
use Rattle.std.specs.Prelude.{fold}
use Rattle.ttx_page.specs.Laws.{sent_from}
use Rattle.ttx_page.specs.Streams.{repeated}
use Rattle.ttx_tool.specs.Receive.{tuned_as, Hears}
use Rattle.ttx_tool.proofs.receiver_steps.step_over.Given as goal

abbrev pub invariant-loop : goal.invariant-loop
invariant-loop g l = record {
  run : Hears (tuned_as (g.X.Receiver.kind l.initial.receiver) (g.X.Receiver.field l.initial.receiver)
      (g.X.Receiver.tuned l.initial.receiver)) l.slots l.start l.counter
      (g.X.Receiver.held l.initial.receiver) (g.X.Receiver.held l.receiver);
  value : l.receiver ≡ fold g.X.Receiver.next l.initial.receiver (sent_from (repeated l.slots) (pos l.start) l.counter);
  at : l.at ≡ (l.start + l.counter) % length l.slots;
  class : g.X.Receiver.kind l.receiver ≡ g.X.Receiver.kind l.initial.receiver;
  lines : g.X.Receiver.field l.receiver ≡ g.X.Receiver.field l.initial.receiver;
  selection : g.X.Receiver.tuned l.receiver ≡ g.X.Receiver.tuned l.initial.receiver;
}
