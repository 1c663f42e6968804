use Rattle.std.proofs.Common.{◌<◌, IsSome, None, Option, Some, SomeIff, arith, refl}
use Rattle.std.proofs.lemmas.List.Elements.{All-from_get_or}
use Rattle.ttx_info.specs.Infos.{InfoFields}
use Rattle.ttx_source.proofs.info_table.info_of.Goals as goal

-- an option has a value if its condition holds
has_value : (o : Option InfoFields) (P : Type 0) (value : InfoFields) → SomeIff o P value → P → IsSome o
has_value None P value iff holds = absurd (iff holds)
has_value (Some found) P value iff holds = refl

pub unwrap-requires : goal.unwrap-requires
unwrap-requires c = has_value c.new-info.result _ _ c.new-info.ensures (record {
  designation = c.in_ok-designation.ensures.range;
  halves = c.in_ok-halves.ensures.offset;
  mjd = omega (arith, c.in_ok-halves.ensures.date);
  utc = omega (arith, c.in_ok-halves.ensures.time);
  text = All-from_get_or (λ code. code < 128) c.in_ok-text.text 0 (λ i within. c.in_ok-text.ensures.codes i);
})
