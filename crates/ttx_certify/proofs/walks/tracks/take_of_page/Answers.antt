use Rattle.std.proofs.Common.{◌≡◌, ◌<◌, length, set, slice_get, refl, sym, ap, ◌∙◌, subst, arith}
use Rattle.std.proofs.lemmas.Option.{slice_get_read, slice_get_within}
use Rattle.ttx_witness.proofs.FirstFaults.{placed}
use Rattle.ttx_certify.specs.walks.PackedTracks.{IsTakenFrom}
use Rattle.ttx_certify.proofs.walk_lemmas.ChangedPlaces.{set_here}
use Rattle.ttx_certify.proofs.walks.tracks.take_of_page.Goals as goal

pub returns-then-number-len-clause-taken : goal.returns-then-number-len-clause-taken
returns-then-number-len-clause-taken c = λ old at.
    let page = c.args.page.now.items in
    let number = c.from-number.result in
    let new = c.take_next.new.packed in
    let lt : number < length page = omega (arith, c.if-number-len.true, c.len.ensures) in
    let same : c.index_mut.result.now ≡ old = placed (slice_get page number) c.index_mut.result.now old
    (slice_get_read page _ number c.index_mut.result.now refl lt c.index_mut.ensures.value) (ap (slice_get page) c.from-number.ensures ∙ at) in
    record {
      value = new;
      here = ap (slice_get (set page number new)) (sym c.from-number.ensures) ∙ set_here page number new lt;
      is = subst (λ x. IsTakenFrom x c.args.sent.transmission c.args.repeat c.args.limit c.args.starts.now new) same c.take_next.ensures;
    }

pub returns-else-number-len-clause-taken : goal.returns-else-number-len-clause-taken
returns-else-number-len-clause-taken c = λ old at.
    let lt = slice_get_within c.args.page.now.items c.args.sent.number old at in
    absurd (omega (arith, c.if-number-len.false, c.len.ensures, c.from-number.ensures))
