-- What the editions of a house have in common (profile).
--
--   is_late                 whether receivers that show a page late have to be served
--   asked_of                the certificate that is asked for of each edition
--   viewers_of              the viewers for whom plans are made
use Rattle.std.specs.Prelude.{Bool, true, false}
use Rattle.ttx_page.specs.declared.class.Class.TheVariants.{Any}
use Rattle.ttx_air.specs.declared.airtime.Receivers.{Receivers}
use Rattle.ttx_air.specs.declared.airtime.Receivers.TheVariants.{AtOnce, Late}
use Rattle.ttx_deadline.specs.declared.asked_deadlines.Asked.{Asked}
use Rattle.ttx_promise.specs.declared.promised_plan.Viewers.{Viewers}
use Rattle.ttx_press.specs.declared.house.House.{House}

abbrev pub is_late : Receivers → Bool
is_late AtOnce = false
is_late (Late gap) = true

abbrev pub asked_of : House → Asked
asked_of h = record { class = Any; repeat = h.repeat; deadline = h.deadline }

abbrev pub viewers_of : House → Viewers
viewers_of h = record { receivers = record { class = Any; late = is_late h.receivers }; repeat = h.repeat }
