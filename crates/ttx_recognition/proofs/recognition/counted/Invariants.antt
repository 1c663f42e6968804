use Rattle.std.proofs.Common.{◌≡◌, ◌≤◌}
use Rattle.ttx_recognition.specs.Forms.{sent_to, read_to}
use Rattle.ttx_recognition.proofs.recognition.counted.Given as goal

abbrev pub invariant-loop-i : goal.invariant-loop-i
invariant-loop-i l = record {
  sent : l.sent ≡ sent_to l.form l.bytes l.i;
  read : l.read ≡ read_to l.form l.bytes l.i;
  few : l.sent ≤ l.i;
  few_read : l.read ≤ l.i;
}
