use Rattle.std.proofs.Common.{◌∙◌, ◌<◌, ◌≤◌, length, Ok, sym, ap, arith, rules}
use Rattle.toml.specs.View.{view}
use Rattle.ttx_source.specs.Keys.{link_of}
use Rattle.ttx_source.proofs.LinkArray.{links_more, links_fault, links_end, six_is, six_fault, front_set, free_after, is_filled}
use Rattle.ttx_source.proofs.links.six_of.Goals as goal

pub returns-in-Err : goal.returns-in-Err
returns-in-Err c =
    let here : c.loop-place.place < length c.args.values.now = omega arith in
    let found = ap (λ v. link_of (view v)) (sym c.index-values-place.is) ∙ sym c.in-Err.ensures in
    sym (six_fault c.args.values.now _ (c.loop-place.invariant.so_far ∙ links_fault _ _ _ _ _ here found))

pub loop-place-preserved : goal.loop-place-preserved
loop-place-preserved c =
    let here : c.loop-place.place < length c.args.values.now = omega arith in
    let room : c.loop-place.place < length c.loop-place.six = omega arith in
    let found = ap (λ v. link_of (view v)) (sym c.index-values-place.is) ∙ sym c.in-Ok.ensures in
    record {
      long = search rules;
      free = free_after c.loop-place.six c.loop-place.place c.in-Ok.link c.loop-place.invariant.long c.loop-place.invariant.free;
      so_far = rw (front_set c.loop-place.six c.loop-place.place c.in-Ok.link room) (c.loop-place.invariant.so_far ∙ links_more _ _ _ _ _ here found);
    }

pub returns : goal.returns
returns c =
    let past : length c.args.values.now ≤ c.loop-place.place = omega arith in
    let read = c.loop-place.invariant.so_far ∙ links_end _ c.args.values.now c.loop-place.place past in
    let full = is_filled c.loop-place.six c.loop-place.place (omega arith) c.loop-place.invariant.long c.loop-place.invariant.free in
    sym (six_is c.args.values.now _ read ∙ ap Ok full)
