-- Each part of a page, and `info`, has no mistake exactly where it is read. NAME_where: the list of the mistakes of NAME is empty there alone.
use Rattle.std.proofs.Common.{◌≡◌, ◌+◌, ℕ, List, [], ◌∷◌, Bool, true, false, if◌then◌else◌, Option, Some, None, Ok, Err, map, codes, refl}
use Rattle.std.proofs.Common.{nat_lt}
use Rattle.toml.specs.Data.{Data, Items, no_items, item, Members, no_members, member, get_member, as_array, as_table}
use Rattle.ttx_source.specs.Values.{Fault, wrong_kind, out_of_range, ◌>>=◌, or_fault, value_or}
use Rattle.ttx_source.specs.Keys.{designation, initial, network, halves, mjd, utc, clock_of, text, info_of_table, info_in}
use Rattle.ttx_source.specs.Keys.{option, flag_at, lower_flags_of, upper_flags_of, control_of_table, row_of, rows_of, row_keys, is_row_key, keys_pass}
use Rattle.ttx_source.specs.Keys.{rows_in, rows_member, count, link_of, links_in, filled, six_of, six_in, six_links, crc, links_of_table}
use Rattle.ttx_source.specs.KeyFaults.{key_name}
use Rattle.ttx_source.specs.declared.keys.Key.{Key}
use Rattle.ttx_check.specs.Parts.{Part, at_key, at_row, at_link}
use Rattle.ttx_mistakes.specs.Mistakes.{mistake, at, fault_in, key_fault, key_mistakes, info_keys, wrong_keys, text_mistakes, table_mistakes}
use Rattle.ttx_mistakes.specs.Mistakes.{row_mistakes, target_mistakes, array_mistakes, link_mistakes, info_table, info_mistakes}
use Rattle.ttx_mistakes.proofs.Sequences.{Absent, Reads, EmptyWhere, Same, by_same, none_where, both_where, refused_where, other_where, and_same}
use Rattle.ttx_mistakes.proofs.Sequences.{then_same, map_same, last_same}

-- the values at some keys are read
abbrev pub KeysRead : Members → List Key → Type 0
KeysRead table [] = Unit {0}
KeysRead table (key ∷ keys) = Absent (key_fault key table) × KeysRead table keys

at_where : (page : ℕ) (part : Part) (fault : Option Fault) → EmptyWhere (at page part fault) (Absent fault)
at_where page part None = record { reads = λ e. tt; empty = λ h. refl }
at_where page part (Some fault) = record { reads = λ e. cc; empty = λ h. absurd h }

pub keys_where : (page : ℕ) (table : Members) (keys : List Key) → EmptyWhere (key_mistakes page table keys) (KeysRead table keys)
keys_where page table [] = none_where
keys_where page table (key ∷ keys) =
    both_where _ _ (at_where page (at_key (key_name key)) (key_fault key table)) (keys_where page table keys)

-- rows
wrong_where : (page : ℕ) (rows : Members) → EmptyWhere (wrong_keys page rows) (keys_pass is_row_key rows ≡ true)
wrong_where page no_members = record { reads = λ e. refl; empty = λ h. refl }
wrong_where page (member key value rows) =
    by_same _ (both_where _ _ (other_where (mistake page (at_row key) (out_of_range (codes "rows"))) (is_row_key key)) (wrong_where page rows))
    (and_same (is_row_key key) (keys_pass is_row_key rows))

texts_where : (page : ℕ) (rows : Members) (keys : List (List ℕ)) →
    EmptyWhere (text_mistakes page rows keys) (Reads (rows_of (map (λ key. get_member key rows) keys)))
unfolding rows_of
texts_where page rows [] = none_where
texts_where page rows (key ∷ keys) =
    by_same _ (both_where _ _ (at_where page (at_row key) (fault_in (row_of (get_member key rows)))) (texts_where page rows keys))
    (then_same (row_of (get_member key rows))
    (λ row. rows_of (map (λ key. get_member key rows) keys) >>= (λ others. Ok (row ∷ others)))
    (λ row. map_same (rows_of (map (λ key. get_member key rows) keys)) (λ others. row ∷ others)))

passed_same : (fault : Fault) (values : List (Option Data)) (passes : Bool) →
    Same ((passes ≡ true) × Reads (rows_of values)) (Reads (or_fault fault (if passes then Some values else None) >>= rows_of))
passed_same fault values true = record { to = λ h. h.1; from = λ h. (refl, h) }
passed_same fault values false = record { to = λ h. cc h.0; from = λ h. absurd h }

table_where : (page : ℕ) (table : Option Members) →
    EmptyWhere (table_mistakes page table) (Reads (or_fault (wrong_kind (codes "rows")) table >>= rows_in))
table_where page None = refused_where (mistake page (at_key (codes "rows")) (wrong_kind (codes "rows")))
table_where page (Some rows) =
    by_same _ (both_where _ _ (wrong_where page rows) (texts_where page rows row_keys))
    (passed_same (out_of_range (codes "rows")) (map (λ key. get_member key rows) row_keys) (keys_pass is_row_key rows))

pub rows_where : (page : ℕ) (value : Option Data) → EmptyWhere (row_mistakes page value) (Reads (rows_member value))
rows_where page None = none_where
rows_where page (Some value) = table_where page (as_table value)

-- links
targets_where : (page number : ℕ) (values : Items) → EmptyWhere (target_mistakes page number values) (Reads (links_in values))
unfolding links_in
targets_where page number no_items = none_where
targets_where page number (item value values) =
    by_same _ (both_where _ _ (at_where page (at_link number) (fault_in (link_of value))) (targets_where page (number + 1) values))
    (then_same (link_of value) (λ first. links_in values >>= (λ others. Ok (first ∷ others)))
    (λ first. map_same (links_in values) (λ others. first ∷ others)))

few_where : (page : ℕ) (values : Items) (many : Bool) →
    EmptyWhere
    (if many then mistake page (at_key (codes "links")) (out_of_range (codes "links")) ∷ [] else target_mistakes page 1 values)
    (Reads (if many then Err (out_of_range (codes "links")) else six_of values))
unfolding six_of
few_where page values true = refused_where (mistake page (at_key (codes "links")) (out_of_range (codes "links")))
few_where page values false = by_same _ (targets_where page 1 values) (map_same (links_in values) filled)

array_where : (page : ℕ) (values : Option Items) →
    EmptyWhere (array_mistakes page values) (Reads (or_fault (wrong_kind (codes "links")) values >>= six_in))
array_where page None = refused_where (mistake page (at_key (codes "links")) (wrong_kind (codes "links")))
array_where page (Some values) = few_where page values (nat_lt 6 (count values))

pub links_where : (page : ℕ) (value : Option Data) →
    EmptyWhere (link_mistakes page value) (Reads (value_or (codes "links") as_array no_items value >>= six_in))
unfolding six_of links_in
links_where page None = none_where
links_where page (Some value) = array_where page (as_array value)

-- `info`
clock_same : (table : Members) → Same (Reads (halves table) × (Reads (mjd table) × (Reads (utc table) × Unit {0}))) (Reads (clock_of table))
unfolding clock_of
clock_same table =
    then_same (halves table) _ (λ offset. then_same (mjd table) _ (λ date. last_same (utc table) _ (λ time. tt)))

fields_same : (table : Members) →
    Same (Reads (designation table) × (Reads (initial table) × (Reads (network table) × (Reads (clock_of table) × (Reads (text table) × Unit {0})))))
    (Reads (info_of_table table))
unfolding info_of_table
fields_same table =
    then_same (designation table) _ (λ number. then_same (initial table) _ (λ page. then_same (network table) _
    (λ code. then_same (clock_of table) _ (λ clock. last_same (text table) _ (λ status. tt)))))

info_same : (table : Members) → Same (KeysRead table info_keys) (Reads (info_of_table table))
unfolding info_keys
info_same table = record {
  to = λ h. (fields_same table).to (
    h.0,
    (
      h.1.0,
      (
        h.1.1.0,
        ((clock_same table).to (h.1.1.1.0, (h.1.1.1.1.0, (h.1.1.1.1.1.0, tt))), (h.1.1.1.1.1.1.0, tt)),
      ),
    ),
  );
  from = λ h.
      let fields = (fields_same table).from h in
      let clock = (clock_same table).from fields.1.1.1.0 in
      (fields.0, (fields.1.0, (fields.1.1.0, (clock.0, (clock.1.0, (clock.1.1.0, (fields.1.1.1.1.0, tt)))))));
}

info_table_where : (table : Option Members) →
    EmptyWhere (info_table table) (Reads (or_fault (wrong_kind (codes "info")) table >>= info_of_table >>= (λ fields. Ok (Some fields))))
info_table_where None = refused_where (mistake 0 (at_key (codes "info")) (wrong_kind (codes "info")))
info_table_where (Some table) =
    by_same _ (by_same _ (keys_where 0 table info_keys) (info_same table)) (map_same (info_of_table table) (λ fields. Some fields))

pub info_where : (value : Option Data) → EmptyWhere (info_mistakes value) (Reads (info_in value))
info_where None = none_where
info_where (Some value) = info_table_where (as_table value)

-- control bits, and the packet X/27/0
pub lower_same : (table : Members) →
    Same (Reads (flag_at (codes "newsflash") table) × (Reads (flag_at (codes "subtitle") table) × (Reads (flag_at (codes "suppress") table) × Unit {0})))
    (Reads (lower_flags_of table))
unfolding lower_flags_of
lower_same table =
    then_same (flag_at (codes "newsflash") table) _ (λ a. then_same (flag_at (codes "subtitle") table) _
    (λ b. last_same (flag_at (codes "suppress") table) _ (λ c. tt)))

pub upper_same : (table : Members) →
    Same (Reads (flag_at (codes "update") table) × (Reads (flag_at (codes "interrupted") table) × (Reads (flag_at (codes "inhibit") table) × Unit {0})))
    (Reads (upper_flags_of table))
unfolding upper_flags_of
upper_same table =
    then_same (flag_at (codes "update") table) _ (λ a. then_same (flag_at (codes "interrupted") table) _
    (λ b. last_same (flag_at (codes "inhibit") table) _ (λ c. tt)))

pub control_same : (is_serial : Bool) (table : Members) →
    Same (Reads (option table) × (Reads (lower_flags_of table) × (Reads (upper_flags_of table) × Unit {0}))) (Reads (control_of_table is_serial table))
unfolding control_of_table
control_same is_serial table =
    then_same (option table) _ (λ number. then_same (lower_flags_of table) _ (λ lower. last_same (upper_flags_of table) _ (λ upper. tt)))

pub links_same : (table : Members) →
    Same (Reads (six_links table) × (Reads (flag_at (codes "row24") table) × (Reads (crc table) × Unit {0}))) (Reads (links_of_table table))
unfolding links_of_table
links_same table =
    then_same (six_links table) _ (λ six. then_same (flag_at (codes "row24") table) _ (λ show. last_same (crc table) _ (λ bytes. tt)))
