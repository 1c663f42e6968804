use Rattle.std.proofs.Common.{◌≡◌, ◌++◌, [], sym, append-nil, string_bytes}
use Rattle.ttx_picture.proofs.Bare.{bare_ground}
use Rattle.ttx_picture.proofs.svg.push_backgrounds.Goals as goal

pub returns-then-not-have_grounds : goal.returns-then-not-have_grounds
returns-then-not-have_grounds c =
    rw (bare_ground c.args.cells.now (sym c.if-not-have_grounds.ensures)) (sym (append-nil (string_bytes c.args.text.now)))
