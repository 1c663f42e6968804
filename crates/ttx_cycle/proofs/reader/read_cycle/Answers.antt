use Rattle.std.proofs.Common.{◌≡◌, ◌∙◌, ◌++◌, ◌≤◌, ◌%◌, Ok, ap, arith, length, length-append, length-take, subst, sym, take}
use Rattle.std.proofs.lemmas.Result.{err_from_is_err_and}
use Rattle.std.proofs.KnownBytes.{Consumes-trans}
use Rattle.std.specs.Io.KnownBytes.{Consumes}
use Rattle.ttx_cycle.specs.Files.{file_of}
use Rattle.ttx_cycle.proofs.Chunks.{judged_any, judged_cut, judged_end, judged_long, whole_slots}
use Rattle.ttx_cycle.proofs.reader.read_cycle.Goals as goal

pub returns-in_err-count-clause-bytes : goal.returns-in_err-count-clause-bytes
returns-in_err-count-clause-bytes g c =
    let p = err_from_is_err_and c.from_residual.result c.from_residual.ensures.1 in
    judged_any _ _ (λ file. rw (p.1, p.2) (c.in_err-count.ensures.judged file))

pub returns-then-branch-clause-bytes : goal.returns-then-branch-clause-bytes
returns-then-branch-clause-bytes g c =
    judged_end _ _ _ _ c.loop-i.invariant.bytes (c.in_ok-is_at_end.ensures.end (ap Ok c.if-branch.true)) c.cycle_of-then-branch.ensures.bytes

pub returns-else-branch-clause-bytes : goal.returns-else-branch-clause-bytes
returns-else-branch-clause-bytes g c =
    judged_long _ _ _ c.loop-i.invariant.bytes (c.in_ok-is_at_end.ensures.more (ap Ok c.if-branch.false))
    (omega (arith, c.loop-i.invariant.long, c.loop-i-test.false))

pub loop-i-preserved : goal.loop-i-preserved
loop-i-preserved g c =
    let bytes = take c.in_ok-count.count c.add_block.new.block in
    let size : length bytes ≡ 1344 = omega (arith, length-take c.in_ok-count.count c.add_block.new.block, c.in_ok-count.ensures.most) in
    let added : file_of c.add_block.new.slots.items ≡ file_of c.loop-i.slots.items ++ bytes =
    whole_slots c.loop-i.slots.items c.add_block.new.slots.items bytes c.in_ok-count.count
    (omega (arith, size)) (omega (arith, c.in_ok-count.ensures.most)) c.in_ok-count.ensures.is in
    record {
      size = c.add_block.ensures.size;
      count = omega (arith, c.in_ok-count.ensures.count, c.in_ok-count.ensures.most);
      bytes = subst (Consumes _ _) (sym added) (Consumes-trans _ _ _ _ _ c.loop-i.invariant.bytes c.in_ok-count.ensures.read);
      long = omega (arith, ap length added, length-append (file_of c.loop-i.slots.items) bytes, size);
      calls = omega (arith, c.add_block.ensures.calls);
      faults = c.in_ok-count.ensures.faults ∙ c.loop-i.invariant.faults;
    }

pub returns-then-count-gt0-clause-bytes : goal.returns-then-count-gt0-clause-bytes
returns-then-count-gt0-clause-bytes g c =
    let size : length (take c.in_ok-count.count c.add_block.new.block) ≡ c.in_ok-count.count =
    omega (arith, length-take c.in_ok-count.count c.add_block.new.block, c.in_ok-count.ensures.most) in
    judged_cut _ _ _ _ _ c.loop-i.i c.in_ok-count.count c.loop-i.invariant.bytes c.in_ok-count.ensures.read
    (c.in_ok-count.ensures.end c.if-count-lt1344.true) c.loop-i.invariant.long c.loop-i-test.true size c.if-count-lt1344.true
    c.if-count-gt0.true

pub returns-then-count-lt1344-clause-bytes : goal.returns-then-count-lt1344-clause-bytes
returns-then-count-lt1344-clause-bytes g c =
    let bytes = take c.in_ok-count.count c.add_block.new.block in
    let few : length bytes ≤ c.in_ok-count.count = omega (arith, length-take c.in_ok-count.count c.add_block.new.block) in
    let whole : c.in_ok-count.count % 42 ≡ 0 = omega arith in
    let added : file_of c.add_block.new.slots.items ≡ file_of c.loop-i.slots.items ++ bytes =
    whole_slots c.loop-i.slots.items c.add_block.new.slots.items bytes c.in_ok-count.count few whole c.in_ok-count.ensures.is in
    judged_end _ _ _ _
    (subst (Consumes _ _) (sym added) (Consumes-trans _ _ _ _ _ c.loop-i.invariant.bytes c.in_ok-count.ensures.read))
    (c.in_ok-count.ensures.end c.if-count-lt1344.true) c.cycle_of.ensures.bytes
