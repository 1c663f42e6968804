use Rattle.std.proofs.Common.{◌+◌, ◌*◌, ◌∙◌, ap}
use Rattle.ttx_certificate.specs.ItemPlaces.{key_of}
use Rattle.ttx_certificate.proofs.entries.Entry.of.Goals as goal

pub invariant_of-result : goal.invariant_of-result
invariant_of-result c = record {
  kept = record {
    id = c.numbered_place-place.ensures.id;
    page = c.requires.page;
    item = c.item_number.ensures.is;
    starts = c.requires.starts;
  };
  placed = c.numbered_place-place.ensures.value ∙ ap (λ number. key_of c.args.page * 26 + number) c.item_number.ensures.value;
}
