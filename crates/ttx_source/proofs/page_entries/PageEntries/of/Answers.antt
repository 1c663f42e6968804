use Rattle.std.proofs.Common.{◌≡◌, ◌∙◌, ◌∷◌, [], false, None, ap, get_or, refl, rules, string_bytes, sym}
use Rattle.std.proofs.lemmas.List.{get_or-replicate}
use Rattle.toml.specs.View.{members_view, view}
use Rattle.ttx_source.specs.Accepted.{is_key_name, key_names}
use Rattle.ttx_source.proofs.KeyPlaces.{all_values, none_more, one_more}
use Rattle.ttx_source.proofs.RowTable.{seen}
use Rattle.ttx_source.proofs.RowValues.{last_member}
use Rattle.ttx_source.proofs.page_entries.PageEntries.of.Goals as goal

pub loop-key-init : goal.loop-key-init
loop-key-init c =
    let start : c.into_iter-key-iterator.result ≡ c.args.table.now.entries = search rules in
    record {
      long = refl;
      found = λ r within.
          rw start (ap (λ v. last_member (get_or key_names r []) (members_view c.args.table.now.entries) (seen v))
          (get_or-replicate 28 r None None within));
    }

pub loop-key-preserved-in-None-place_of : goal.loop-key-preserved-in-None-place_of
loop-key-preserved-in-None-place_of c =
    let here : c.loop-key.key-iterator ≡ (c.in-Some.key.now, c.in-Some.value.now) ∷ c.next.new.self = c.in-Some.ensures.steps in
    let other : is_key_name (string_bytes c.in-Some.key.now) ≡ false = ap is_key_name (sym c.as_str.ensures.value)
    ∙ sym c.in-None-place_of.ensures.among in
    let was = c.loop-key.invariant in
    record {
      long = was.long;
      found = λ r within.
          ap (last_member (get_or key_names r []) (members_view c.next.new.self))
          (none_more c.loop-key.values r (string_bytes c.in-Some.key.now) (view c.in-Some.value.now) within other)
          ∙ rw here at (was.found r within);
    }

pub loop-key-preserved : goal.loop-key-preserved
loop-key-preserved c =
    let here : c.loop-key.key-iterator ≡ (c.in-Some.key.now, c.in-Some.value.now) ∷ c.next.new.self = c.in-Some.ensures.steps in
    let text : c.as_str.result.now ≡ string_bytes c.in-Some.key.now = c.as_str.ensures.value in
    let place = c.in-Some-place_of.ensures.place in
    let was = c.loop-key.invariant in
    record {
      long = search rules;
      found = λ r within.
          ap (last_member (get_or key_names r []) (members_view c.next.new.self))
          (one_more c.loop-key.values c.in-Some-place_of.place r (string_bytes c.in-Some.key.now) c.in-Some.value was.long place.0
          (place.1 ∙ text) within)
          ∙ rw here at (was.found r within);
    }

pub returns-clause-found : goal.returns-clause-found
returns-clause-found c =
    let over : c.loop-key.key-iterator ≡ [] = c.in-None.ensures.steps.0 in
    let was = c.loop-key.invariant in
    all_values c.loop-key.values c.args.table.now.entries was.long c.iter-key-items.ensures.ordered
    (λ r within. rw over at (was.found r within))
