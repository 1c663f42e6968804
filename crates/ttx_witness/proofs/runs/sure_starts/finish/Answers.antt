use Rattle.std.proofs.Common.{◌≡◌, ◌+◌, ◌*◌, ◌<◌, ◌≤◌, suc, length, ◌++◌, refl, sym, ◌∙◌, subst, arith, eqb-true}
use Rattle.std.specs.List.{AllByRecursion}
use Rattle.ttx_witness.specs.runs.SureStarts.{IsFound}
use Rattle.ttx_witness.specs.runs.Tracks.{ended, held_in_ring, listed, IsWithin}
use Rattle.ttx_witness.proofs.lemmas.runs.OneMore.{found_more}
use Rattle.ttx_witness.proofs.lemmas.runs.AfterThePeriod.{round_empty, round_begins, round_done, within_more, some_of}
use Rattle.ttx_witness.proofs.runs.sure_starts.finish.Goals as goal

pub returns-then-is_empty : goal.returns-then-is_empty
returns-then-is_empty c = λ k ts i.
    subst (λ rs. IsFound rs c.args.found.now.starts.items c.args.found.now.spread)
    (round_empty k c.args.period ts (held_in_ring c.args.ring.now) i.recent (eqb-true _ _ (sym c.if-is_empty.ensures)))
    (record { starts = i.starts; spread = i.spread })

pub loop-i-init : goal.loop-i-init
loop-i-init c = record {
  repeat = refl;
  some = some_of (length c.args.ring.now.firsts.items) c.if-is_empty.ensures;
  firsts = c.requires.firsts;
  small = c.requires.small;
  round = λ k ts i. (ended k ts, round_begins k c.args.period ts (held_in_ring c.args.ring.now) i.recent, record { starts = i.starts; spread = i.spread });
}

pub push_further-run-requires-clause-small : goal.push_further-run-requires-clause-small
push_further-run-requires-clause-small c = within_more ((c.loop-i.i + 1) * 65536) 524288 c.loop-i.ring.firsts.items
    (omega (arith, c.loop-i-test.true, c.requires.room)) c.loop-i.invariant.small

pub loop-i-preserved : goal.loop-i-preserved
loop-i-preserved c =
    let v = c.loop-i.invariant in
    let p = c.push_further-run.ensures in
    record {
      repeat = p.repeat ∙ v.repeat;
      some = omega (arith, v.some, p.count);
      firsts = omega (arith, v.firsts, p.count);
      small = let e : (c.loop-i.i + 1) * 65536 + 65536 ≡ (c.loop-i.i + 1 + 1) * 65536 = omega arith in
          subst (λ b. AllByRecursion (IsWithin b) c.push_further-run.new.ring.firsts.items) e (p.within ((c.loop-i.i + 1) * 65536) v.small);
      round = λ k ts i.
          let r = v.round k ts i in
          let lt : c.loop-i.i < k = let cap : c.args.ring.now.window.capacity ≡ suc k = i.recent.repeat in omega (arith, c.loop-i-test.true) in (
            r.0 ++ listed c.push_further-run.result,
            p.round k c.loop-i.i ts r.0 lt r.1,
            found_more r.0 (listed c.push_further-run.result) c.loop-i.found.starts.items c.loop-i.found.spread
                c.keep_start.new.found.starts.items c.keep_start.new.found.spread r.2 c.in_ok-keep_start.ensures.starts
                c.in_ok-keep_start.ensures.spread,
          );
    }

pub returns : goal.returns
returns c = λ k ts i.
    let r = c.loop-i.invariant.round k ts i in
    let le : k ≤ c.loop-i.i = let cap : c.args.ring.now.window.capacity ≡ suc k = i.recent.repeat in omega (arith, c.loop-i-test.false) in
    subst (λ rs. IsFound rs c.loop-i.found.starts.items c.loop-i.found.spread)
    (round_done k c.args.period c.loop-i.i ts r.0 (held_in_ring c.loop-i.ring) le r.1) r.2
