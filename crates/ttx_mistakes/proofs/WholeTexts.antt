-- A text has no mistake exactly where it is read.
use Rattle.std.proofs.Common.{◌≡◌, ◌∙◌, ◌++◌, ℕ, List, [], Bool, true, false, if◌then◌else◌, Option, Some, None, Result, Ok, Err, codes, refl, ap, sym}
use Rattle.std.proofs.Common.{nat_lt}
use Rattle.std.specs.Str.{is_utf8}
use Rattle.toml.specs.Data.{Items, no_items, Members, get_member, as_array}
use Rattle.toml.specs.Parse.{parse_document}
use Rattle.ttx_source.specs.Values.{Fault, out_of_range, wrong_kind, ◌>>=◌, with_default}
use Rattle.ttx_source.specs.Keys.{lines, serial, info, count}
use Rattle.ttx_source.specs.Promises.{promises_in, promises_of, promises_or, read_promises, read_stays}
use Rattle.ttx_source.specs.Services.{ServiceFields, Authored, authored_ids, in_page, are_tables, tables_in, page_tables, with_pages, settings_of, service_of}
use Rattle.ttx_source.specs.Services.{service_in, read_bytes}
use Rattle.ttx_mistakes.specs.Laws.{IsFaultless, IsReadWhole, NoMistakeWhereRead}
use Rattle.ttx_mistakes.specs.Mistakes.{service_keys, key_mistakes, info_mistakes, all_pages, mistakes}
use Rattle.ttx_mistakes.proofs.Sequences.{Reads, EmptyWhere, Same, by_same, both_where, then_same, last_same, then_all, is_value, reads_value, step_where}
use Rattle.ttx_mistakes.proofs.PageParts.{KeysRead, keys_where, info_where}
use Rattle.ttx_mistakes.proofs.PageMistakes.{in_page_same, pages_where}

settings_same : (table : Members) → Same (KeysRead table service_keys × Reads (info table)) (Reads (in_page 0 (settings_of table)))
unfolding service_keys settings_of
settings_same table =
    let read = then_same (lines table) _ (λ slots. then_same (serial table) _ (λ is_serial. last_same (info table) _ (λ packet. tt))) in
    let whole = in_page_same 0 (settings_of table) in
    record {
      to = λ h. whole.to (read.to (h.0.0, (h.0.1.0, (h.1, tt))));
      from = λ h. let r = read.from (whole.from h) in ((r.0, (r.1.0, tt)), r.1.1.0);
    }

-- settings have no pages
no_pages : (table : Members) (service : ServiceFields) → settings_of table ≡ Ok service → service.pages ≡ []
unfolding settings_of
no_pages table =
    then_all (λ (s : ServiceFields). s.pages ≡ []) (lines table) _ (λ slots l. then_all (λ (s : ServiceFields). s.pages ≡ []) (serial table) _
    (λ is_serial s. then_all (λ (s : ServiceFields). s.pages ≡ []) (info table) _ (λ packet i service e. sym (ap (λ (r : Result ServiceFields Fault). pages_or r) e))))
  where
    pages_or : Result ServiceFields Fault → List Authored
    pages_or (Ok s) = s.pages
    pages_or (Err f) = []

value_in : {A : Type 0} (page : ℕ) (r : Result A Fault) (a : A) → in_page page r ≡ Ok a → r ≡ Ok a
value_in page (Ok b) a e = cc
value_in page (Err f) a e = cc

-- an array of pages has tables alone
tables_only : (table : Members) (values : Items) → page_tables table ≡ Ok values → are_tables values ≡ true
tables_only table =
    then_all (λ (them : Items). are_tables them ≡ true) (with_default (codes "page") as_array no_items table) tables_in
    (λ values is. few (nat_lt 2000 (count values)) values)
  where
    all : (are : Bool) (values : Items) → are_tables values ≡ are → (them : Items) → (if are then Ok values else Err (wrong_kind (codes "page"))) ≡ Ok them →
        are_tables them ≡ true
    all true values h them e = let same : values ≡ them = cc in ap are_tables (sym same) ∙ h
    all false values h them e = cc

    few : (many : Bool) (values : Items) (them : Items) →
        (if many then Err (out_of_range (codes "page")) else if are_tables values then Ok values else Err (wrong_kind (codes "page"))) ≡ Ok them →
        are_tables them ≡ true
    few true values them e = cc
    few false values them e = all (are_tables values) values refl them e

abbrev AllRead : ServiceFields → Result Items Fault → Type 0
AllRead service pages =
    Reads (in_page 0 pages >>= with_pages service)
    × (Reads (in_page 0 pages >>= promises_in (codes "within") 0) × Reads (in_page 0 pages >>= promises_in (codes "stays") 0))

all_where : (service : ServiceFields) (pages : Result Items Fault) → service.pages ≡ [] →
    ((values : Items) → pages ≡ Ok values → are_tables values ≡ true) → EmptyWhere (all_pages pages) (AllRead service pages)
all_where service (Err f) none tables = record { reads = λ e. cc; empty = λ h. absurd h.0 }
all_where service (Ok values) none tables = pages_where service 1 0 [] values (sym (ap authored_ids none)) (tables values refl)

abbrev TableRead : Members → Type 0
TableRead table =
    Reads (service_of table) × (Reads (promises_of (codes "within") table) × Reads (promises_of (codes "stays") table))

table_where : (table : Members) → EmptyWhere (mistakes table) (TableRead table)
unfolding mistakes service_of
table_where table =
    let keys = key_mistakes 0 table service_keys in
    let packet = info_mistakes (get_member (codes "info") table) in
    let settings = settings_same table in
    let first : EmptyWhere (keys ++ packet) (Reads (in_page 0 (settings_of table)) × Unit {0}) =
    by_same _ (both_where keys packet (keys_where 0 table service_keys) (info_where (get_member (codes "info") table))) record {
      to = λ h. (settings.to h, tt);
      from = λ h. settings.from h.0;
    } in
    let steps = step_where (keys ++ packet) (all_pages (page_tables table)) (in_page 0 (settings_of table))
    (λ service. in_page 0 (page_tables table) >>= with_pages service) first
    (λ service is. all_where service (page_tables table) (no_pages table service (value_in 0 (settings_of table) service is)) (tables_only table)) in
    by_same _ steps record {
      to = λ h. (h.0, h.1.1);
      from = λ h. (h.0, (tt, h.1));
    }

-- a text, by whether it is UTF-8, and by its table if it is TOML
pub record FaultlessIn (text : Bool) (parsed : Option Members) : Type 0 where
  pub table : Members
  pub text_is : text ≡ true
  pub parsed_is : parsed ≡ Some table
  pub none : mistakes table ≡ []

abbrev pub ReadIn : Option Members → Type 0
ReadIn document =
    Reads (service_in document) × (Reads (promises_or (codes "within") document) × Reads (promises_or (codes "stays") document))

pub text_same : (text : Bool) (parsed : Option Members) → Same (FaultlessIn text parsed) (ReadIn (if text then parsed else None))
text_same false parsed = record { to = λ h. cc h.text_is; from = λ h. absurd h.0 }
text_same true None = record { to = λ h. cc h.parsed_is; from = λ h. absurd h.0 }
text_same true (Some table) = record {
  to = λ (h : FaultlessIn true (Some table)).
      let same : table ≡ h.table = cc h.parsed_is in
      (table_where table).reads (ap mistakes same ∙ h.none);
  from = λ h. record { table = table; text_is = refl; parsed_is = refl; none = (table_where table).empty h };
}

pub no_mistake_where_read : NoMistakeWhereRead
no_mistake_where_read bytes =
    let same = text_same (is_utf8 bytes) (parse_document bytes) in
    record {
      read = λ (f : IsFaultless bytes).
          let h = same.to record { table = f.table; text_is = f.text; parsed_is = f.parsed; none = f.none } in
          let service = is_value (read_bytes bytes) h.0 in
          let promises = is_value (read_promises bytes) h.1.0 in
          let stays = is_value (read_stays bytes) h.1.1 in
          record {
            service = service.0;
            promises = promises.0;
            stays = stays.0;
            service_is = service.1;
            promises_are = promises.1;
            stays_are = stays.1;
          };
      faultless = λ (r : IsReadWhole bytes).
          let h = same.from (
            reads_value (read_bytes bytes) r.service r.service_is,
            (reads_value (read_promises bytes) r.promises r.promises_are, reads_value (read_stays bytes) r.stays r.stays_are),
          ) in
          record { table = h.table; text = h.text_is; parsed = h.parsed_is; none = h.none };
    }
