use Rattle.std.proofs.Common.{◌-◌, take, None, refl, subst, arith}
use Rattle.ttx_witness.specs.runs.Tracks.{IsSearch}
use Rattle.ttx_witness.proofs.lemmas.runs.OneByOne.{take_more, search_begins}
use Rattle.ttx_witness.proofs.lemmas.runs.OneMore.{take_whole}
use Rattle.ttx_witness.proofs.runs.one_item.search_item.Goals as goal

pub loop-i-init : goal.loop-i-init
loop-i-init c = record {
  held = search_begins (c.args.repeat - 1) c.begin.new.ring (record { starts = c.in-Ok.starts; spread = None }) c.in_ok-begin.ensures.held
      c.in-Ok.ensures.items refl;
}

pub loop-i-preserved : goal.loop-i-preserved
loop-i-preserved c = record {
  held = subst (λ ts. IsSearch (c.args.repeat - 1) ts c.note.new.ring c.note.new.found)
      (take_more c.args.sent.now c.loop-i.i _ c.loop-i-test.true)
      (c.in_ok-note.ensures (c.args.repeat - 1) (take c.loop-i.i c.args.sent.now) c.loop-i.invariant.held);
}

pub returns : goal.returns
returns c =
    c.in_ok-finish.ensures (c.args.repeat - 1) c.args.sent.now
    (subst (λ ts. IsSearch (c.args.repeat - 1) ts c.loop-i.ring c.loop-i.found)
    (take_whole c.loop-i.i c.args.sent.now (omega (arith, c.loop-i-test.false))) c.loop-i.invariant.held)
