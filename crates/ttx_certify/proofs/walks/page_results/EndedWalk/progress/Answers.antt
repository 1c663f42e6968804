use Rattle.std.proofs.Common.{◌≡◌, ◌-◌, ◌<◌, ◌≤◌, suc, length, slice_get, sym, ap, ◌∙◌, subst}
use Rattle.std.proofs.Common.{arith, eqb-true}
use Rattle.ttx_page.specs.Streams.{run_length}
use Rattle.ttx_certify.specs.walks.Passing.{ended_certificate}
use Rattle.ttx_witness.specs.sent.ItemTransmissions.{sent_in}
use Rattle.ttx_witness.specs.runs.Tracks.{IsWithin}
use Rattle.ttx_witness.specs.Coverage.{limit}
use Rattle.ttx_certify.specs.walks.PackedTracks.{held_of, IsPacked}
use Rattle.ttx_certify.proofs.walk_lemmas.EndOfList.{progress_told}
use Rattle.ttx_certify.proofs.walk_lemmas.PackedTracks.{as_track}
use Rattle.ttx_witness.proofs.FirstFaults.{placed}
use Rattle.ttx_witness.proofs.SentItems.{item_one, all_by_place}
use Rattle.ttx_certify.proofs.walks.page_results.EndedWalk.progress.Goals as goal

pub returns-then-is_empty : goal.returns-then-is_empty
returns-then-is_empty c = λ y p item ended at it number named needed some.
    let none : length c.args.starts.now ≡ 0 = eqb-true (length c.args.starts.now) 0 (sym c.if-is_empty.ensures) in
    let l : length c.args.starts.now ≡ length ((ended_certificate c.args.self.now).starts p.id item) = ap length named in
    absurd (omega arith)

pub returns-in_default : goal.returns-in_default
returns-in_default c = λ y p item ended at it number named needed some.
    let h = ended.tracks c.args.index p item at it in
    let here = sym c.in_default.is ∙ c.track.ensures.here h.value h.here ∙ ap (slice_get h.value.items) (sym number) ∙ h.is.here in
    absurd cc

pub returns : goal.returns
returns c = λ y p item ended at it number named.
    let self = c.args.self.now in
    let w = ended_certificate self in
    let own = c.item_of-item.result in
    let repeat = c.repeat_of-repeat.result in
    let lim = c.limit-limit.result in
    let starts = c.args.starts.now in
    let same = item_one own item c.item_of-item.ensures.item it (c.item_of-item.ensures.number ∙ sym number) in
    let length_is : repeat ≡ run_length w.repeat item = c.repeat_of-repeat.ensures.repeat ∙ ap (run_length w.repeat) same in
    let k = repeat - 1 in
    let repeat_is : repeat ≡ suc k = (let s = c.repeat_of-repeat.ensures.some in omega arith) in
    let short : k < 8 = (let f = c.repeat_of-repeat.ensures.few in omega arith) in
    let some : 1 ≤ length y = (let s = ended.cycle.some in omega arith) in
    let few : self.period ≤ 65536 = (let m = ended.cycle.most in let e = ended.period in omega arith) in
    let ts = sent_in y p.id w.lines item in
    let small = all_by_place (IsWithin 65536) ts (c.transmissions_are_listed.ensures y some ended.cycle.most p.id w.lines item).1 in
    let h = ended.tracks c.args.index p item at it in
    let packed = c.in-Some.packed in
    let here : packed ≡ h.is.value = placed _ packed h.is.value c.in-Some.is
    (c.track.ensures.here h.value h.here ∙ ap (slice_get h.value.items) (sym number) ∙ h.is.here) in
    let is_packed : IsPacked k lim starts ts packed =
    subst (IsPacked k lim starts ts) (sym here)
    (subst (λ ss. IsPacked k lim ss ts h.is.value) (sym named)
    (subst (λ l. IsPacked k l (w.starts p.id item) ts h.is.value) (sym c.limit-limit.ensures)
    (subst (λ r. IsPacked (r - 1) (limit w) (w.starts p.id item) ts h.is.value) (sym length_is) (h.is.is.kept small)))) in
    progress_told y p w item starts lim self.period repeat c.finish.new.track.progress named
    c.limit-limit.ensures ended.period length_is
    (c.finish.ensures k ts short few small
    (as_track k lim starts ts packed c.unpack_track-track.result is_packed
    (c.unpack_track-track.ensures.recent ∙ ap (λ n. held_of n packed) repeat_is) c.unpack_track-track.ensures.progress))
