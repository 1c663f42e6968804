use Rattle.std.proofs.Common.{◌≡◌, ℕ, ◌+◌, ◌-◌, ◌≤◌, ◌++◌, List, arith, length, take, drop, subst, sym, ap, ◌∙◌, rules, length-drop, take_all}
use Rattle.std.proofs.Math.Seq.{take-add}
use Rattle.std.specs.Io.KnownBytes.{Appends}
use Rattle.std.proofs.KnownBytes.{Appends-trans}
use Rattle.ttx_cycle.proofs.writer.write_bytes.Goals as goal

-- the bytes written so far, and then the front of the rest
more_sent : (bytes : List ℕ) (at n : ℕ) → at ≤ length bytes → take at bytes ++ take n (take (length bytes - at) (drop at bytes)) ≡ take (at + n) bytes
more_sent bytes at n within =
    ap (λ l. take at bytes ++ take n l) (take_all (length bytes - at) (drop at bytes) (omega (arith, length-drop at bytes)))
    ∙ sym (take-add at n bytes)

pub loop-written-preserved : goal.loop-written-preserved
loop-written-preserved g c = record {
  within = omega (arith, c.in-Ok.ensures.bound, length-drop c.loop-written.written c.args.bytes.now);
  sent = subst (Appends _ _) (more_sent c.args.bytes.now c.loop-written.written c.in-Ok.count c.loop-written.invariant.within)
      (Appends-trans _ _ _ _ _ c.loop-written.invariant.sent c.in-Ok.ensures.bytes);
  calls = omega (arith, c.in-Ok.ensures.calls);
  faults = search rules;
}
