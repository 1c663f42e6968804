use Rattle.std.proofs.Common.{◌-◌, take, subst, arith}
use Rattle.ttx_witness.specs.runs.Tracks.{IsTrack}
use Rattle.ttx_witness.proofs.lemmas.runs.OneByOne.{take_more}
use Rattle.ttx_witness.proofs.lemmas.runs.OneMore.{take_whole}
use Rattle.ttx_witness.proofs.runs.one_item.judge_item.Goals as goal

pub loop-i-init : goal.loop-i-init
loop-i-init c = record { held = c.nothing_confirmed-track.ensures c.args.limit c.args.starts.now }

pub loop-i-preserved : goal.loop-i-preserved
loop-i-preserved c = record {
  held = subst (λ ts. IsTrack (c.args.repeat - 1) c.args.limit c.args.starts.now ts c.note.new.track)
      (take_more c.args.sent.now c.loop-i.i _ c.loop-i-test.true)
      (c.note.ensures (c.args.repeat - 1) (take c.loop-i.i c.args.sent.now) c.loop-i.invariant.held);
}

pub returns : goal.returns
returns c =
    c.finish.ensures (c.args.repeat - 1) c.args.sent.now
    (subst (λ ts. IsTrack (c.args.repeat - 1) c.args.limit c.args.starts.now ts c.loop-i.track)
    (take_whole c.loop-i.i c.args.sent.now (omega (arith, c.loop-i-test.false))) c.loop-i.invariant.held)
