use Rattle.std.proofs.Common.{◌≡◌, ◌∙◌, ◌++◌, [], List, ℕ, sym, append-nil, string_bytes}
use Rattle.ttx_picture.specs.Svg.{drawn}
use Rattle.ttx_picture.specs.declared.svg.pens.Layer.TheVariants.{Top, Middle, Bottom}
use Rattle.ttx_picture.proofs.Bare.{bare_layer}
use Rattle.ttx_picture.proofs.svg.push_mosaics.Goals as goal

none : (text a b c : List ℕ) → a ≡ [] → b ≡ [] → c ≡ [] → text ++ a ++ b ++ c ≡ text
none text a b c at bt ct = rw (at, bt, ct) (append-nil (text ++ [] ++ []) ∙ append-nil (text ++ []) ∙ append-nil text)

pub returns-then-not-has_mosaics : goal.returns-then-not-has_mosaics
returns-then-not-has_mosaics c =
    let reveal = c.args.reveal in
    let tall = c.args.tall in
    let cells = c.args.cells.now in
    let bare = sym c.if-not-has_mosaics.ensures in
    sym (none (string_bytes c.args.text.now)
    (drawn reveal tall Top cells) (drawn reveal tall Middle cells) (drawn reveal tall Bottom cells)
    (bare_layer reveal tall Top tt cells bare) (bare_layer reveal tall Middle tt cells bare) (bare_layer reveal tall Bottom tt cells bare))
