use Rattle.std.proofs.Common.{◌≡◌, take}
use Rattle.ttx_page.specs.Receivers.{Run}
use Rattle.ttx_certify.proofs.reception.receive.Given as goal

abbrev pub invariant-loop-slot : goal.invariant-loop-slot
invariant-loop-slot g l = record {
  run : Run (g.R.Receiver.kind l.initial.receiver) (g.R.Receiver.field l.initial.receiver) (g.R.Receiver.tuned l.initial.receiver)
      (g.R.Receiver.held l.initial.receiver)
      (take l.slot-index l.slots) (g.R.Receiver.held l.receiver);
  class : g.R.Receiver.kind l.receiver ≡ g.R.Receiver.kind l.initial.receiver;
  selection : g.R.Receiver.tuned l.receiver ≡ g.R.Receiver.tuned l.initial.receiver;
  lines : g.R.Receiver.field l.receiver ≡ g.R.Receiver.field l.initial.receiver;
}
