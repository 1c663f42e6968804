use Rattle.std.proofs.Common.{◌≡◌, ◌∙◌, ◌++◌, Some, codes, string_bytes, ap, subst}
use Rattle.toml.specs.View.{table_view}
use Rattle.ttx_check.specs.Refusals as check
use Rattle.ttx_check.specs.Spots.{spot_name}
use Rattle.ttx_places.specs.Places.{place_of}
use Rattle.ttx_source.specs.Faults.{fault_of}
use Rattle.ttx_press.proofs.author_refusals.fault_words.Goals as goal

pub returns : goal.returns
returns c =
    let text = c.args.text.now in
    let fault = fault_of c.args.error.now.fault in
    let place = c.in_ok-place.place in
    let spot = c.in_ok-spot.spot in
    let detail = string_bytes spot.detail in
    let named = spot_name (table_view c.args.table.now) fault c.args.error.now.page in
    let path = c.as_str.ensures.value ∙ c.in_ok-spot.ensures.path in
    let name = c.as_str-2.ensures.value ∙ c.in_ok-spot.ensures.name in
    record {
      fault = fault;
      page = c.args.error.now.page;
      refused = c.requires;
      place = place;
      detail = detail;
      stands = subst (λ path. place_of path text ≡ Some place) path c.in_ok-place.ensures;
      says = c.in_ok-spot.ensures.detail;
      words_are = c.in_ok-push_said.ensures
          ∙ ap (λ m. m ++ codes ": " ++ check.fault_words fault ++ c.as_str-3.result.now) (c.in_ok-push_place.ensures
          ∙ ap (λ m. m ++ check.place_text text place c.as_str-2.result.now) c.new-words.ensures.bytes
          ∙ ap (check.place_text text place) name)
          ∙ ap (λ d. check.place_text text place named ++ codes ": " ++ check.fault_words fault ++ d) c.as_str-3.ensures.value;
    }
