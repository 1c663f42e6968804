-- A page, and an array of pages, has no mistake exactly where it is read.
use Rattle.std.proofs.Common.{◌≡◌, ◌∙◌, ◌+◌, ◌++◌, ℕ, suc, List, [], ◌∷◌, Bool, true, false, if◌then◌else◌, Option, Some, None, Result, Ok, Err, is_some, length}
use Rattle.std.proofs.Common.{codes, refl, ap, sym, subst}
use Rattle.std.proofs.lemmas.List.{map-append}
use Rattle.toml.specs.Data.{Data, Items, no_items, item, Members, get_member, as_table}
use Rattle.ttx_header.specs.Ids.{Id, id_at}
use Rattle.ttx_source.specs.Values.{Fault, wrong_kind, duplicate, ◌>>=◌, or_fault}
use Rattle.ttx_source.specs.Keys.{often, control_of_table, head, rows, six_links, links_of_table}
use Rattle.ttx_source.specs.Promises.{PromiseFields, promise_at, fields_of, promise_by, promise_of, promise_in, promises_in}
use Rattle.ttx_source.specs.Services.{Authored, authored_ids, ServiceFields, with_page, has_id, new_id, id_of_table, authored_of, in_page}
use Rattle.ttx_source.specs.Services.{next_page, with_pages, are_tables}
use Rattle.ttx_check.specs.Parts.{at_key, number_of, sub_of}
use Rattle.ttx_mistakes.specs.Mistakes.{mistake, id_keys, head_keys, link_keys, id_from, read_id, is_again, with_id}
use Rattle.ttx_mistakes.specs.Mistakes.{page_mistakes, mistakes_in, id_in, pages_mistakes}
use Rattle.ttx_mistakes.proofs.Sequences.{Reads, EmptyWhere, Same, by_same, both_where, one_where, and_same, reads_same}
use Rattle.ttx_mistakes.proofs.Sequences.{then_same, map_same, last_same, then_all, step_where}
use Rattle.ttx_mistakes.proofs.PageParts.{KeysRead, keys_where, rows_where, links_where, lower_same, upper_same, control_same, links_same}

-- the id of a page
id_same : (earlier : List Authored) (number : Result (ℕ × ℕ) Fault) (sub : Result ℕ Fault) →
    Same ((Reads number × (Reads sub × Unit {0})) × (is_again (authored_ids earlier) (id_from number sub) ≡ false))
    (Reads (number >>= (λ n. sub >>= (λ s. new_id earlier (id_at n.0 n.1 s)))))
id_same earlier (Ok n) (Ok s) =
    let id = id_at n.0 n.1 s in
    let new = reads_same id duplicate (has_id earlier id) in
    record { to = λ h. new.to h.1; from = λ h. ((tt, (tt, tt)), new.from h) }
id_same earlier (Ok n) (Err e) = record { to = λ h. h.0.1.0; from = λ h. absurd h }
id_same earlier (Err e) sub = record { to = λ h. h.0.0; from = λ h. absurd h }

table_id_same : (earlier : List Authored) (table : Members) →
    Same (KeysRead table id_keys × (is_again (authored_ids earlier) (read_id table) ≡ false)) (Reads (id_of_table earlier table))
unfolding id_keys id_of_table
table_id_same earlier table = id_same earlier (number_of table) (sub_of table)

-- the whole page
parts_same : (is_serial : Bool) (earlier : List Authored) (table : Members) →
    Same (Reads (id_of_table earlier table) × (Reads (often table) × (Reads (control_of_table is_serial table) × (Reads (head table)
    × (Reads (rows table) × (Reads (links_of_table table) × Unit {0}))))))
    (Reads (authored_of is_serial earlier table))
unfolding authored_of
parts_same is_serial earlier table =
    then_same (id_of_table earlier table) _ (λ id. then_same (often table) _ (λ times. then_same (control_of_table is_serial table) _
    (λ control. then_same (head table) _ (λ characters. then_same (rows table) _ (λ texts. last_same (links_of_table table) _
    (λ links. tt))))))

abbrev PartsRead : List Authored → Members → Type 0
PartsRead earlier table =
    ((((KeysRead table id_keys × (is_again (authored_ids earlier) (read_id table) ≡ false)) × KeysRead table head_keys)
    × Reads (rows table)) × Reads (six_links table)) × KeysRead table link_keys

abbrev PageRead : Bool → List Authored → Members → Type 0
PageRead is_serial earlier table =
    Reads (authored_of is_serial earlier table)
    × (Reads (promise_of (codes "within") 0 table) × Reads (promise_of (codes "stays") 0 table))

page_same : (is_serial : Bool) (earlier : List Authored) (table : Members) → Same (PartsRead earlier table) (PageRead is_serial earlier table)
unfolding head_keys link_keys
page_same is_serial earlier table =
    let whole = parts_same is_serial earlier table in
    let id = table_id_same earlier table in
    let control = control_same is_serial table in
    let lower = lower_same table in
    let upper = upper_same table in
    let packet = links_same table in
    record {
      to = λ h.
          let keys = h.0.0.0.1 in
          let last = h.1 in
          let low = lower.to (keys.1.1.0, (keys.1.1.1.0, (keys.1.1.1.1.0, tt))) in
          let high = upper.to (keys.1.1.1.1.1.0, (keys.1.1.1.1.1.1.0, (keys.1.1.1.1.1.1.1.0, tt))) in
          let bits = control.to (keys.1.0, (low, (high, tt))) in
          let links = packet.to (h.0.1, (last.0, (last.1.0, tt))) in
          (whole.to (id.to h.0.0.0.0, (keys.0, (bits, (keys.1.1.1.1.1.1.1.1.0, (h.0.0.1, (links, tt)))))), (last.1.1.0, last.1.1.1.0));
      from = λ h.
          let parts = whole.from h.0 in
          let bits = control.from parts.1.1.0 in
          let low = lower.from bits.1.0 in
          let high = upper.from bits.1.1.0 in
          let links = packet.from parts.1.1.1.1.1.0 in
          let keys : KeysRead table head_keys = (parts.1.0, (bits.0, (low.0, (low.1.0, (low.1.1.0, (high.0, (high.1.0, (high.1.1.0, (parts.1.1.1.0, tt))))))))) in
          ((((id.from parts.0, keys), parts.1.1.1.1.0), links.0), (links.1.0, (links.1.1.0, (h.1.0, (h.1.1, tt)))));
    }

pub page_where : (is_serial : Bool) (page : ℕ) (earlier : List Authored) (table : Members) →
    EmptyWhere (page_mistakes page (authored_ids earlier) table) (PageRead is_serial earlier table)
unfolding page_mistakes
page_where is_serial page earlier table =
    let again = one_where (mistake page (at_key (codes "number")) duplicate) (is_again (authored_ids earlier) (read_id table)) in
    let front = both_where _ _ (both_where _ _ (keys_where page table id_keys) again) (keys_where page table head_keys) in
    let middle = both_where _ _ front (rows_where page (get_member (codes "rows") table)) in
    let back = both_where _ _ middle (links_where page (get_member (codes "links") table)) in
    by_same _ (both_where _ _ back (keys_where page table link_keys)) (page_same is_serial earlier table)

-- an item of the array of pages
pub in_page_same : {A : Type 0} (page : ℕ) (r : Result A Fault) → Same (Reads r) (Reads (in_page page r))
in_page_same page (Ok a) = record { to = λ h. tt; from = λ h. tt }
in_page_same page (Err e) = record { to = λ h. absurd h; from = λ h. absurd h }

promise_same : (key : List ℕ) (page : ℕ) (table : Members) (value : Option Data) →
    Same (Reads (promise_by key 0 table value)) (Reads (in_page (suc page) (promise_by key page table value)))
promise_same key page table None = record { to = λ h. tt; from = λ h. tt }
promise_same key page table (Some value) = read (fields_of key value)
  where
    read : (fields : Result ℕ Fault) →
        Same (Reads (fields >>= (λ n. Ok (promise_at 0 n (is_some (get_member (codes "often") table)) ∷ []))))
        (Reads (in_page (suc page) (fields >>= (λ n. Ok (promise_at page n (is_some (get_member (codes "often") table)) ∷ [])))))
    read (Ok n) = record { to = λ h. tt; from = λ h. tt }
    read (Err e) = record { to = λ h. absurd h; from = λ h. absurd h }

-- what is read of an item that may be a table
abbrev next_of : ServiceFields → Option Members → Result Authored (Fault × ℕ)
next_of service table =
    in_page 0 (or_fault (wrong_kind (codes "page")) table)
    >>= (λ keys. in_page (length service.pages + 1) (authored_of service.serial service.pages keys))

abbrev promise_next : List ℕ → ℕ → Option Members → Result (List PromiseFields) (Fault × ℕ)
promise_next key index table =
    in_page 0 (or_fault (wrong_kind (codes "page")) table) >>= (λ keys. in_page (suc index) (promise_of key index keys))

item_where : (service : ServiceFields) (page index : ℕ) (earlier : List Id) (table : Option Members) → earlier ≡ authored_ids service.pages →
    is_some table ≡ true →
    EmptyWhere (mistakes_in page earlier table)
    (Reads (next_of service table) × (Reads (promise_next (codes "within") index table) × Reads (promise_next (codes "stays") index table)))
item_where service page index earlier None ids is = cc
item_where service page index earlier (Some table) ids is =
    let own = in_page_same (length service.pages + 1) (authored_of service.serial service.pages table) in
    let within = promise_same (codes "within") index table (get_member (codes "within") table) in
    let stays = promise_same (codes "stays") index table (get_member (codes "stays") table) in
    let those = subst (λ (them : List Id). EmptyWhere (page_mistakes page them table) (PageRead service.serial service.pages table)) (sym ids)
    (page_where service.serial page service.pages table) in
    by_same _ those record {
      to = λ h. (own.to h.0, (within.to h.1.0, stays.to h.1.1));
      from = λ h. (own.from h.0, (within.from h.1.0, stays.from h.1.1));
    }

-- the id of a page that is read
id_is : (earlier : List Authored) (number : Result (ℕ × ℕ) Fault) (sub : Result ℕ Fault) (id : Id) →
    (number >>= (λ n. sub >>= (λ s. new_id earlier (id_at n.0 n.1 s)))) ≡ Ok id → id_from number sub ≡ Some id
id_is earlier (Ok n) (Ok s) id e = one (has_id earlier (id_at n.0 n.1 s)) e
  where
    one : (again : Bool) → (if again then Err duplicate else Ok (id_at n.0 n.1 s)) ≡ Ok id → Some (id_at n.0 n.1 s) ≡ Some id
    one true e = cc
    one false e = cc
id_is earlier (Ok n) (Err f) id e = cc
id_is earlier (Err f) sub id e = cc

read_id_is : (earlier : List Authored) (table : Members) (id : Id) → id_of_table earlier table ≡ Ok id → read_id table ≡ Some id
unfolding id_of_table
read_id_is earlier table id e = id_is earlier (number_of table) (sub_of table) id e

own_id : (is_serial : Bool) (earlier : List Authored) (table : Members) (page : Authored) → authored_of is_serial earlier table ≡ Ok page →
    read_id table ≡ Some page.page.id
unfolding authored_of
own_id is_serial earlier table =
    then_all (λ (p : Authored). read_id table ≡ Some p.page.id) (id_of_table earlier table) _
    (λ id is. then_all (λ (p : Authored). read_id table ≡ Some p.page.id) (often table) _
    (λ times t. then_all (λ (p : Authored). read_id table ≡ Some p.page.id) (control_of_table is_serial table) _
    (λ control c. then_all (λ (p : Authored). read_id table ≡ Some p.page.id) (head table) _
    (λ characters h. then_all (λ (p : Authored). read_id table ≡ Some p.page.id) (rows table) _
    (λ texts r. then_all (λ (p : Authored). read_id table ≡ Some p.page.id) (links_of_table table) _
    (λ links l p e. read_id_is earlier table id is ∙ ap (λ (r : Result Authored Fault). id_or id r) e))))))
  where
    id_or : Id → Result Authored Fault → Option Id
    id_or id (Ok p) = Some p.page.id
    id_or id (Err f) = None

ids_next : (service : ServiceFields) (earlier : List Id) (table : Option Members) (page : Authored) → earlier ≡ authored_ids service.pages →
    next_of service table ≡ Ok page → with_id earlier (id_in table) ≡ authored_ids (service.pages ++ page ∷ [])
ids_next service earlier None page ids e = cc
ids_next service earlier (Some table) page ids e =
    let own = own_id service.serial service.pages table page (value_in (authored_of service.serial service.pages table) e) in
    ap (with_id earlier) own ∙ ap (λ (them : List Id). them ++ page.page.id ∷ []) ids ∙ sym (map-append (λ (p : Authored). p.page.id) service.pages (page ∷ []))
  where
    value_in : (r : Result Authored Fault) → in_page (length service.pages + 1) r ≡ Ok page → r ≡ Ok page
    value_in (Ok a) e = cc
    value_in (Err f) e = cc

abbrev pub PagesRead : ServiceFields → ℕ → Items → Type 0
PagesRead service index values =
    Reads (with_pages service values) × (Reads (promises_in (codes "within") index values) × Reads (promises_in (codes "stays") index values))

promises_same : (key : List ℕ) (index : ℕ) (value : Data) (values : Items) →
    Same (Reads (promise_in key index value) × Reads (promises_in key (suc index) values)) (Reads (promises_in key index (item value values)))
unfolding promises_in
promises_same key index value values =
    then_same (promise_in key index value) (λ first. promises_in key (suc index) values >>= (λ others. Ok (first ++ others)))
    (λ first. map_same (promises_in key (suc index) values) (λ others. first ++ others))

pub pages_where : (service : ServiceFields) (page index : ℕ) (earlier : List Id) (values : Items) → earlier ≡ authored_ids service.pages →
    are_tables values ≡ true → EmptyWhere (pages_mistakes page earlier values) (PagesRead service index values)
unfolding with_pages promises_in
pages_where service page index earlier no_items ids are = record { reads = λ e. (tt, (tt, tt)); empty = λ h. refl }
pages_where service page index earlier (item value values) ids are =
    let tables = (and_same (is_some (as_table value)) (are_tables values)).from are in
    let within = promises_same (codes "within") index value values in
    let stays = promises_same (codes "stays") index value values in
    let steps = step_where (mistakes_in page earlier (as_table value)) (pages_mistakes (page + 1) (with_id earlier (id_in (as_table value))) values)
    (next_page service value) (λ own. with_pages (with_page service own) values)
    (item_where service page index earlier (as_table value) ids tables.0)
    (λ own is. pages_where (with_page service own) (page + 1) (suc index) (with_id earlier (id_in (as_table value))) values
    (ids_next service earlier (as_table value) own ids is) tables.1) in
    by_same _ steps record {
      to = λ h. (h.0, (within.to (h.1.0.0, h.1.1.0), stays.to (h.1.0.1, h.1.1.1)));
      from = λ h. let w = within.from h.1.0 in let s = stays.from h.1.1 in (h.0, ((w.0, s.0), (w.1, s.1)));
    }
