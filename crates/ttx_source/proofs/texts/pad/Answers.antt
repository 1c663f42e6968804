use Rattle.std.proofs.Common.{◌≡◌, ap, length, ◌++◌}
use Rattle.std.proofs.lemmas.List.{drop-replicate}
use Rattle.ttx_source.proofs.texts.pad.Goals as goal

pub returns : goal.returns
returns g c =
    let copied : c.copy_from_slice.new.self ≡ c.args.bytes.now = c.copy_from_slice.ensures.after in
    rw (copied, c.spaces.ensures) (ap (λ t. c.args.bytes.now ++ t) (drop-replicate (length c.args.bytes.now) _ 32))
