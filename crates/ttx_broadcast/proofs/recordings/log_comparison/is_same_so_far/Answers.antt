use Rattle.std.proofs.Common.{◌≡◌, take, sym, subst}
use Rattle.std.specs.Bool.{Decides}
use Rattle.std.proofs.lemmas.Slice.Eq.{bytes_eq-Decides}
use Rattle.ttx_broadcast.proofs.recordings.log_comparison.is_same_so_far.Goals as goal

pub returns : goal.returns
returns c =
    let both = c.min-both.result in
    let a = c.args.a.now in
    let b = c.args.b.now in
    let here : Decides c.eq.result (take both a ≡ take both b) =
    subst (λ r. Decides r (take both a ≡ take both b)) (sym c.eq.ensures) (bytes_eq-Decides (take both a) (take both b)) in
    subst (λ n. Decides c.eq.result (take n a ≡ take n b)) c.min-both.ensures here
