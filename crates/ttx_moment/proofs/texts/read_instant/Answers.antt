use Rattle.std.proofs.Common.{◌≡◌, true, false, inr, subst, IsOk, IfOk}
use Rattle.jiff.specs.Words.{plain_zone}
use Rattle.ttx_moment.specs.Texts.{zone_instant}
use Rattle.ttx_moment.proofs.texts.read_instant.Goals as goal

pub returns-in-Ok : goal.returns-in-Ok
returns-in-Ok c =
    let datetime = c.in-Some-datetime_in.datetime in
    let zone = plain_zone c.args.zone.now in
    let value = subst (λ r. IfOk r (λ t. t.nanosecond ≡ zone_instant zone datetime)) c.in-Ok.is c.to_timestamp.ensures.value in
    inr (c.in_default.ensures, (datetime, c.in-Some-datetime_in.ensures, value))

pub returns-in-Err : goal.returns-in-Err
returns-in-Err c = (
  c.in_default.ensures,
  inr (
    c.in-Some-datetime_in.datetime,
    c.in-Some-datetime_in.ensures,
    λ range. let e : false ≡ true = subst IsOk c.in-Err.is (c.to_timestamp.ensures.succeeds.1 range) in cc,
  ),
)
