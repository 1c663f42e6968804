use Rattle.std.proofs.Common.{◌≡◌, ◌-◌, length}
use Rattle.ttx_desk.specs.Places.{sign_left}
use Rattle.ttx_desk.proofs.places.sign_left.Given as goal

abbrev pub invariant-loop-sign : goal.invariant-loop-sign
invariant-loop-sign l =
    sign_left (length l.text - l._sign) l.basic l.feeds l.left l.rest ≡ sign_left (length l.text) l.basic l.fn.feeds l.fn.index l.text
