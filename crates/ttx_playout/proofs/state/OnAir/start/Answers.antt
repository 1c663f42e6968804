use Rattle.std.proofs.Common.{◌∙◌, pos, refl, sym, subst}
use Rattle.ttx_proof.proofs.NamedStarts.{turned_start}
use Rattle.ttx_playout.specs.Takeovers.{edition_of, IsCertified}
use Rattle.ttx_playout.proofs.state.OnAir.start.Goals as goal

pub returns-in-Any-clause-on_air : goal.returns-in-Any-clause-on_air
returns-in-Any-clause-on_air c = record {
  on_air = record {
    editions = c.has_ranges.ensures;
    handed = (
      subst (IsCertified (edition_of c.args.first)) c.in-Ok-Yes.field-0-is c.in-Ok-Yes.ensures,
      sym c.class.ensures ∙ c.in-Any.is,
    );
    current = refl;
    sent = tt;
  };
  next = pos 0;
  place = turned_start _ 0 c.has_ranges.ensures.cycle.some;
  is_log = refl;
}
