use Rattle.std.proofs.Common.{refl}
use Rattle.ttx_info.proofs.fields.Info.new.Goals as goal

pub returns-then-are_characters : goal.returns-then-are_characters
returns-then-are_characters c = (
  record {
    designation = c.if-designation-lt2.true;
    halves = c.if-halves-lt32.true;
    mjd = c.if-mjd-lt100000.true;
    utc = c.if-utc-lt1000000.true;
    text = c.are_characters.ensures.0 c.if-are_characters.true;
  },
  refl,
)
