use Rattle.std.proofs.Common.{◌≡◌, ◌∙◌, ◌∷◌, [], true, false, None, ap, get_or, refl, rules, string_bytes, sym}
use Rattle.std.proofs.lemmas.List.{get_or-replicate}
use Rattle.toml.specs.View.{members_view, table_view, view}
use Rattle.ttx_source.specs.Keys.{is_row_key, keys_pass, row_keys, rows_of}
use Rattle.ttx_source.proofs.RowTable.{seen}
use Rattle.ttx_source.proofs.RowValues.{all_values, keys_fault, keys_more, last_member, one_more}
use Rattle.ttx_source.proofs.rows.write_table.Goals as goal

pub loop-key-init : goal.loop-key-init
loop-key-init c =
    let start : c.into_iter-key-iterator.result ≡ c.args.table.now.entries = search rules in
    record {
      long = refl;
      keys = rw start refl;
      found = λ r within.
          rw start (ap (λ v. last_member (get_or row_keys r []) (members_view c.args.table.now.entries) (seen v))
          (get_or-replicate 24 r None None within));
    }

pub loop-key-preserved : goal.loop-key-preserved
loop-key-preserved c =
    let here : c.loop-key.key-iterator ≡ (c.in-Some.key.now, c.in-Some.value.now) ∷ c.next.new.self = c.in-Some.ensures.steps in
    let text : c.as_str.result.now ≡ string_bytes c.in-Some.key.now = c.as_str.ensures.value in
    let known : is_row_key (string_bytes c.in-Some.key.now) ≡ true = ap is_row_key (sym text) ∙ sym c.in-Some-row_index.ensures.among in
    let place = c.in-Some-row_index.ensures.place in
    let index = c.in-Some-row_index.index in
    let was = c.loop-key.invariant in
    record {
      long = search rules;
      keys = was.keys ∙ rw here (keys_more _ (view c.in-Some.value.now) _ known);
      found = λ r within.
          ap (last_member (get_or row_keys r []) (members_view c.next.new.self))
          (one_more c.loop-key.values index r (string_bytes c.in-Some.key.now) c.in-Some.value was.long place.0 (place.1 ∙ text) within)
          ∙ rw here at (was.found r within);
    }

pub returns-in-None-row_index-clause-value : goal.returns-in-None-row_index-clause-value
returns-in-None-row_index-clause-value c =
    let here : c.loop-key.key-iterator ≡ (c.in-Some.key.now, c.in-Some.value.now) ∷ c.next.new.self = c.in-Some.ensures.steps in
    let other : is_row_key (string_bytes c.in-Some.key.now) ≡ false = ap is_row_key (sym c.as_str.ensures.value)
    ∙ sym c.in-None-row_index.ensures.among in
    let refused : keys_pass is_row_key (table_view c.args.table.now) ≡ false = c.loop-key.invariant.keys
    ∙ rw here (keys_fault _ (view c.in-Some.value.now) _ other) in
    rw refused refl

pub returns-clause-value : goal.returns-clause-value
returns-clause-value c =
    let over : c.loop-key.key-iterator ≡ [] = c.in-None.ensures.steps.0 in
    let was = c.loop-key.invariant in
    let known : keys_pass is_row_key (table_view c.args.table.now) ≡ true = was.keys ∙ rw over refl in
    let values = all_values c.loop-key.values c.args.table.now.entries was.long c.iter-key-items.ensures.ordered
    (λ r within. rw over at (was.found r within)) in
    rw known (c.write_values.ensures.value ∙ ap rows_of values)
