-- The short report and the long one refuse the same texts.
use Rattle.std.proofs.Common.{◌≡◌, ◌∙◌, ◌⊎◌, inl, inr, ◌+◌, ◌++◌, ◌||◌, ◌&&◌, ℕ, zero, suc, List, [], ◌∷◌, length, map, codes, Bool, true, false, if◌then◌else◌, nat_lt, Option, Some, None, Result, Ok, Err, ap, sym, refl, arith, slice_get}
use Rattle.std.specs.List.{list_any}
use Rattle.std.specs.Str.{is_utf8}
use Rattle.std.proofs.lemmas.List.Folds.{list_any-append}
use Rattle.toml.specs.Data.{Data, Items, no_items, item, Members, no_members, member, get_member, as_table}
use Rattle.toml.specs.Parse.{parse_document}
use Rattle.ttx_header.specs.Ids.{Id}
use Rattle.ttx_page.specs.Pages.{Page}
use Rattle.ttx_places.specs.Paths.{page_path}
use Rattle.ttx_source.specs.Documents.{document_of}
use Rattle.ttx_source.specs.Promises.{PromiseFields, promises_of, read_promises, read_stays}
use Rattle.ttx_source.specs.Services.{ServiceFields, pages_of, read_bytes, service_of}
use Rattle.ttx_source.specs.Values.{Fault}
use Rattle.ttx_stays.specs.ShortNumbers.{short_text}
use Rattle.ttx_stays.specs.UnkeptStays.{stay_text}
use Rattle.ttx_check.specs.Parts.{items_in}
use Rattle.ttx_check.specs.Reports.{IsStayReport, IsPromiseReport, IsReportOf}
use Rattle.ttx_check.specs.UnknownKeys.{is_one_of, info_keys, page_keys, service_keys}
use Rattle.ttx_check.specs.Spots.{page_id}
use Rattle.ttx_check.specs.Warnings.{warnings}
use Rattle.ttx_check.specs.declared.warning.Warning.{Warning}
use Rattle.ttx_mistakes.specs.KeyNotes.{key_note, unknown_notes, table_notes, info_notes, page_notes, pages_notes, key_notes}
use Rattle.ttx_mistakes.specs.Laws.{AreRefusedAlike, RefusedAlike}
use Rattle.ttx_mistakes.specs.LongLines.{Placed, placed}
use Rattle.ttx_mistakes.specs.LongReports.{stayed_notes, service_notes, notes_of, IsReportBy}
use Rattle.ttx_mistakes.specs.Mistakes.{Mistake, mistakes}
use Rattle.ttx_mistakes.specs.Notes.{Note, error_note, error_notes}
use Rattle.ttx_mistakes.specs.StayNotes.{line_note, key_path, short_notes, unkept_notes, stay_notes}
use Rattle.ttx_mistakes.specs.WarningNotes.{warning_note, ids_of, warning_notes}
use Rattle.ttx_mistakes.proofs.Sequences.{Reads, Same}
use Rattle.ttx_mistakes.proofs.WholeTexts.{FaultlessIn, ReadIn, text_same}

-- whether one of some notes is an error
abbrev has_error : List Note → Bool
has_error notes = list_any (λ n. n.error) notes

-- no note is an error
record AreWarnings (notes : List Note) : Type 0 where
  none : has_error notes ≡ false

both_warn : (a b : List Note) → AreWarnings a → AreWarnings b → AreWarnings (a ++ b)
both_warn a b p q = record { none = list_any-append (λ (n : Note). n.error) a b ∙ neither (has_error a) (has_error b) p.none q.none }
  where
    neither : (x y : Bool) → x ≡ false → y ≡ false → (x || y) ≡ false
    neither true y p q = p
    neither false y p q = q

-- the warnings about keys
key_warns : (path place : List ℕ) (names : List (List ℕ)) (key : List ℕ) (known : Bool) →
    AreWarnings (if known then [] else key_note path place names key ∷ [])
key_warns path place names key true = record { none = refl }
key_warns path place names key false = record { none = refl }

unknown_warn : (path place : List ℕ) (names : List (List ℕ)) (table : Members) → AreWarnings (unknown_notes path place names table)
unknown_warn path place names no_members = record { none = refl }
unknown_warn path place names (member key value table) =
    both_warn (if is_one_of names key then [] else key_note path place names key ∷ []) (unknown_notes path place names table)
    (key_warns path place names key (is_one_of names key)) (unknown_warn path place names table)

table_warns : (path place : List ℕ) (names : List (List ℕ)) (table : Option Members) → AreWarnings (table_notes path place names table)
table_warns path place names None = record { none = refl }
table_warns path place names (Some table) = unknown_warn path place names table

info_warns : (value : Option Data) → AreWarnings (info_notes value)
info_warns None = record { none = refl }
info_warns (Some value) = table_warns (codes "/info") (codes "info") info_keys (as_table value)

page_warns : (page : ℕ) (table : Option Members) → AreWarnings (page_notes page table)
page_warns page None = record { none = refl }
page_warns page (Some table) =
    unknown_warn (page_path page) (codes "page " ++ page_id table page) page_keys table

pages_warn : (page : ℕ) (values : Items) → AreWarnings (pages_notes page values)
pages_warn page no_items = record { none = refl }
pages_warn page (item value values) = both_warn _ _ (page_warns page (as_table value)) (pages_warn (page + 1) values)

keys_warn : (table : Members) → AreWarnings (key_notes table)
unfolding key_notes
keys_warn table =
    both_warn _ _ (both_warn _ _ (unknown_warn [] (codes "service") service_keys table) (info_warns (get_member (codes "info") table)))
    (pages_warn 1 (items_in (get_member (codes "page") table)))

-- the warnings about a service and its stays
some_warn : (ids : List Id) (found : List Warning) → AreWarnings (map (warning_note ids) found)
some_warn ids [] = record { none = refl }
some_warn ids (w ∷ found) = record { none = (some_warn ids found).none }

line_warns : (path line : List ℕ) → AreWarnings (line_note path line)
line_warns path [] = record { none = refl }
line_warns path (c ∷ line) = record { none = refl }

short_warn : (pages : List Page) (stays : List PromiseFields) (n : ℕ) → AreWarnings (short_notes pages stays n)
short_warn pages stays zero = record { none = refl }
short_warn pages stays (suc n) =
    both_warn _ _ (short_warn pages stays n) (line_warns (key_path n (codes "number")) (short_text pages stays n (slice_get pages n)))

unkept_warn : (lines : ℕ) (pages : List Page) (stays : List PromiseFields) → AreWarnings (unkept_notes lines pages stays)
unkept_warn lines pages [] = record { none = refl }
unkept_warn lines pages (stay ∷ stays) =
    both_warn _ _ (line_warns (key_path stay.page (codes "stays")) (stay_text lines pages stay)) (unkept_warn lines pages stays)

stayed_warn : (service : ServiceFields) (stays : Result (List PromiseFields) (Fault × ℕ)) → AreWarnings (stayed_notes service stays)
unfolding stay_notes
stayed_warn service (Err fault) = record { none = refl }
stayed_warn service (Ok stays) =
    both_warn _ _ (short_warn (pages_of service) stays (length (pages_of service))) (unkept_warn service.lines (pages_of service) stays)

service_warns : (service : Result ServiceFields (Fault × ℕ)) (table : Members) → AreWarnings (service_notes service table)
unfolding warning_notes
service_warns (Err fault) table = record { none = refl }
service_warns (Ok service) table =
    both_warn _ _ (some_warn (ids_of service) (warnings service)) (stayed_warn service (promises_of (codes "stays") table))

-- the notes about a text have an error exactly where there is a mistake
notes_with : (table : Members) (found : List Mistake) →
    ((found ≡ []) × AreWarnings (error_notes table found ++ key_notes table ++ service_notes (service_of table) table))
    ⊎ ((found ≡ [] → ⊥) × (has_error (error_notes table found ++ key_notes table ++ service_notes (service_of table) table) ≡ true))
unfolding error_note
notes_with table [] = inl (refl, both_warn (key_notes table) _ (keys_warn table) (service_warns (service_of table) table))
notes_with table (m ∷ found) = inr (λ e. cc, refl)

notes_warn : (table : Members) →
    ((mistakes table ≡ []) × AreWarnings (notes_of table)) ⊎ ((mistakes table ≡ [] → ⊥) × (has_error (notes_of table) ≡ true))
unfolding notes_of
notes_warn table = notes_with table (mistakes table)

placed_errors : (bytes : List ℕ) (notes : List Note) → list_any (λ p. p.error) (map (placed bytes) notes) ≡ has_error notes
placed_errors bytes [] = refl
placed_errors bytes (n ∷ notes) = ap (λ b. n.error || b) (placed_errors bytes notes)

-- the status of the long report
abbrev status_of : Bool → Bool → ℕ
status_of error more = if error then 2 else if more then 1 else 0

small_status : (error more : Bool) → error ≡ false → status_of error more ≡ 2 → ⊥
small_status true more none is = cc
small_status false true none is = omega arith
small_status false false none is = omega arith

refused_status : (error more : Bool) → error ≡ true → status_of error more ≡ 2
refused_status true more some = refl
refused_status false more some = cc

long_status : (file bytes long : List ℕ) (strict : Bool) (code : ℕ) (text : Bool) (parsed : Option Members) →
    IsReportBy file bytes strict (if text then parsed else None) long code →
    (FaultlessIn text parsed × (code ≡ 2 → ⊥)) ⊎ ((FaultlessIn text parsed → ⊥) × (code ≡ 2))
long_status file bytes long strict code false parsed report = inr (λ f. cc f.text_is, report.1)
long_status file bytes long strict code true None report = inr (λ f. cc f.parsed_is, report.1)
long_status file bytes long strict code true (Some table) report = by_notes (notes_warn table)
  where
    found : List Placed
    found = map (placed bytes) (notes_of table)

    by_notes : ((mistakes table ≡ []) × AreWarnings (notes_of table)) ⊎ ((mistakes table ≡ [] → ⊥) × (has_error (notes_of table) ≡ true)) →
        (FaultlessIn true (Some table) × (code ≡ 2 → ⊥)) ⊎ ((FaultlessIn true (Some table) → ⊥) × (code ≡ 2))
    by_notes (inl quiet) = inl (
      record { table = table; text_is = refl; parsed_is = refl; none = quiet.0 },
      λ e. small_status (list_any (λ p. p.error) found) (strict && nat_lt 0 (length found)) (placed_errors bytes (notes_of table) ∙ quiet.1.none)
          (sym report.1 ∙ e),
    )
    by_notes (inr some) = inr (
      λ (f : FaultlessIn true (Some table)). let same : table ≡ f.table = cc f.parsed_is in some.0 (ap mistakes same ∙ f.none),
      report.1 ∙ refused_status (list_any (λ p. p.error) found) (strict && nat_lt 0 (length found)) (placed_errors bytes (notes_of table) ∙ some.1),
    )

-- the status of the short report
of_stays : (bytes text : List ℕ) (plain : ℕ) (service : ServiceFields) (r : Result (List PromiseFields) (Fault × ℕ)) →
    IsStayReport bytes service r text plain → ((plain ≡ 0) × Reads r) ⊎ ((plain ≡ 2) × (Reads r → ⊥))
of_stays bytes text plain service (Ok stays) report = inl (report.1, tt)
of_stays bytes text plain service (Err fault) report = inr (report.1, λ r. r)

of_promises : (bytes text : List ℕ) (plain : ℕ) (service : ServiceFields) (r : Result (List PromiseFields) (Fault × ℕ)) →
    IsPromiseReport bytes service r text plain →
    ((plain ≡ 0) × (Reads r × Reads (read_stays bytes))) ⊎ ((plain ≡ 2) × (Reads r × Reads (read_stays bytes) → ⊥))
of_promises bytes text plain service (Ok promises) report = more (of_stays bytes text plain service (read_stays bytes) report)
  where
    more : ((plain ≡ 0) × Reads (read_stays bytes)) ⊎ ((plain ≡ 2) × (Reads (read_stays bytes) → ⊥)) →
        ((plain ≡ 0) × (Unit {0} × Reads (read_stays bytes))) ⊎ ((plain ≡ 2) × (Unit {0} × Reads (read_stays bytes) → ⊥))
    more (inl a) = inl (a.0, (tt, a.1))
    more (inr b) = inr (b.0, λ r. b.1 r.1)
of_promises bytes text plain service (Err fault) report = inr (report.1, λ r. r.0)

abbrev AllRead : List ℕ → Result ServiceFields (Fault × ℕ) → Type 0
AllRead bytes r = Reads r × (Reads (read_promises bytes) × Reads (read_stays bytes))

of_service : (bytes text : List ℕ) (plain : ℕ) (r : Result ServiceFields (Fault × ℕ)) → IsReportOf bytes r text plain →
    ((plain ≡ 0) × AllRead bytes r) ⊎ ((plain ≡ 2) × (AllRead bytes r → ⊥))
of_service bytes text plain (Ok service) report = more (of_promises bytes text plain service (read_promises bytes) report)
  where
    more : ((plain ≡ 0) × (Reads (read_promises bytes) × Reads (read_stays bytes)))
        ⊎ ((plain ≡ 2) × (Reads (read_promises bytes) × Reads (read_stays bytes) → ⊥)) →
        ((plain ≡ 0) × AllRead bytes (Ok service)) ⊎ ((plain ≡ 2) × (AllRead bytes (Ok service) → ⊥))
    more (inl a) = inl (a.0, (tt, a.1))
    more (inr b) = inr (b.0, λ r. b.1 r.1)
of_service bytes text plain (Err fault) report = inr (report.1, λ r. r.0)

alike : (F R : Type 0) (plain code : ℕ) → Same F R → ((plain ≡ 0) × R) ⊎ ((plain ≡ 2) × (R → ⊥)) →
    (F × (code ≡ 2 → ⊥)) ⊎ ((F → ⊥) × (code ≡ 2)) → AreRefusedAlike plain code
alike F R plain code same (inl a) (inl f) = record { long = λ e. absurd (differ a.0 e); short = λ e. absurd (f.1 e) }
  where
    differ : plain ≡ 0 → plain ≡ 2 → ⊥
    differ p q = omega arith
alike F R plain code same (inl a) (inr n) = absurd (n.0 (same.from a.1))
alike F R plain code same (inr b) (inl f) = absurd (b.1 (same.to f.0))
alike F R plain code same (inr b) (inr n) = record { long = λ e. n.1; short = λ e. b.0 }

pub refused_alike : RefusedAlike
refused_alike file bytes short long strict plain code told told_long =
    alike (FaultlessIn (is_utf8 bytes) (parse_document bytes)) (ReadIn (document_of bytes)) plain code
    (text_same (is_utf8 bytes) (parse_document bytes))
    (of_service bytes short plain (read_bytes bytes) told)
    (long_status file bytes long strict code (is_utf8 bytes) (parse_document bytes) told_long)
