-- One line more is recalled.
use Rattle.std.proofs.Common.{◌≡◌, ℕ, suc, ◌+◌, ◌<◌, List, [], ◌∷◌, ◌++◌, length, map, take, slice_index_or, Ok, Err, inl, inr, refl, sym, ap, ◌∙◌, subst, arith}
use Rattle.std.proofs.lemmas.List.{append-nil}
use Rattle.std.proofs.Math.Seq.{take-suc}
use Rattle.std.proofs.lemmas.List.{get_or-map, length-map, map-append}
use Rattle.ttx_logbook.specs.LogTexts.{EntryFields, EventFields}
use Rattle.ttx_logbook.specs.LogTexts as log
use Rattle.ttx_logbook.specs.Views.{entry_of}
use Rattle.ttx_logbook.specs.declared.values.Entry.{Entry}
use Rattle.ttx_archive.specs.Archives.{ToldFields, RecordedFields, recorded_of, IsToldOf, IsFirst, RecallsBy, Recalls, IsAdded, IsLostIn}
use Rattle.ttx_archive.specs.declared.recalled_log.RecallFault.{RecallFault}
use Rattle.ttx_archive.specs.declared.recalled_log.RecallFault.TheVariants.{Lost, NoMemory}
use Rattle.ttx_archive.specs.declared.recorded.Recorded.{Recorded}

module _ (archive : List (List ℕ)) where
  first_more : (e : EntryFields) (more more' : List RecordedFields → Type 0) (rs new : List RecordedFields) →
      ((rest : List RecordedFields) → more rest → more' (rest ++ new)) → IsFirst archive e more rs → IsFirst archive e more' (rs ++ new)
  first_more e more more' rs new goes f = record {
    told = f.told;
    rest = f.rest ++ new;
    first = ap (λ l. l ++ new) f.first;
    is_told = f.is_told;
    others = goes f.rest f.others;
  }

  by_more : (event : EventFields) (e : EntryFields) (more more' : List RecordedFields → Type 0) (rs new : List RecordedFields) →
      ((rest : List RecordedFields) → more rest → more' (rest ++ new)) → RecallsBy event archive e more rs → RecallsBy event archive e more' (rs ++ new)
  by_more (log.Changed digest words) e more more' rs new goes f = first_more e more more' rs new goes f
  by_more (log.Kept digest words) e more more' rs new goes f = first_more e more more' rs new goes f
  by_more (log.Unread words) e more more' rs new goes f = first_more e more more' rs new goes f
  by_more log.End e more more' rs new goes f = goes rs f

  more : (es : List EntryFields) (e : EntryFields) (rs new : List RecordedFields) → RecallsBy e.event archive e (λ r. r ≡ []) new → Recalls archive es rs →
      Recalls archive (es ++ e ∷ []) (rs ++ new)
  more [] e rs new last none = subst (RecallsBy e.event archive e (λ r. r ≡ [])) (sym (ap (λ r. r ++ new) none)) last
  more (first ∷ es) e rs new last recalls =
      by_more first.event first (Recalls archive es) (Recalls archive (es ++ e ∷ [])) rs new (λ rest is. more es e rest new last is) recalls

  last_one : (event : EventFields) (e : EntryFields) (told : ToldFields) → e.event ≡ event → IsToldOf archive e.event told →
      RecallsBy event archive e (λ r. r ≡ []) (record { field = e.field; told = told } ∷ [])
  last_one (log.Changed digest words) e told same is = record { told = told; rest = []; first = refl; is_told = is; others = refl }
  last_one (log.Kept digest words) e told same is = record { told = told; rest = []; first = refl; is_told = is; others = refl }
  last_one (log.Unread words) e told same is = record { told = told; rest = []; first = refl; is_told = is; others = refl }
  last_one log.End e told same is = absurd (subst (λ v. IsToldOf archive v told) same is)

  -- the first n lines are recalled
  abbrev pub AreRecalled : List Entry → ℕ → List Recorded → Type 0
  AreRecalled entries n told = Recalls archive (map entry_of (take n entries)) (map recorded_of told)

  taken : (entries : List Entry) (n : ℕ) (d : Entry) → n < length entries →
      map entry_of (take (n + 1) entries) ≡ map entry_of (take n entries) ++ entry_of (slice_index_or entries n d) ∷ []
  taken entries n d within =
      let one : n + 1 ≡ suc n = omega arith in
      ap (λ k. map entry_of (take k entries)) one ∙ ap (map entry_of) (take-suc entries n d within)
      ∙ map-append entry_of (take n entries) (slice_index_or entries n d ∷ [])

  recalled_end : (e : EntryFields) (es : List EntryFields) (told : List Recorded) → e.event ≡ log.End → Recalls archive es (map recorded_of told) →
      Recalls archive (es ++ e ∷ []) (map recorded_of told)
  recalled_end e es told end recalls =
      let last = subst (λ v. RecallsBy v archive e (λ r. r ≡ []) []) (sym end) refl in
      subst (Recalls archive (es ++ e ∷ [])) (append-nil (map recorded_of told)) (more es e (map recorded_of told) [] last recalls)

  recalled_one : (e : EntryFields) (es : List EntryFields) (told told' : List Recorded) (r : Recorded) → told' ≡ told ++ r ∷ [] → r.field ≡ e.field →
      IsToldOf archive e.event (recorded_of r).told → Recalls archive es (map recorded_of told) → Recalls archive (es ++ e ∷ []) (map recorded_of told')
  recalled_one e es told told' r pushed field is_told recalls =
      let last = last_one e.event e (recorded_of r).told refl is_told in
      let one : record { field = e.field; told = (recorded_of r).told } ≡ recorded_of r = λ i. record { field = sym field i; told = (recorded_of r).told } in
      let all = ap (λ x. map recorded_of told ++ x ∷ []) one ∙ sym (map-append recorded_of told (r ∷ [])) ∙ sym (ap (map recorded_of) pushed) in
      subst (Recalls archive (es ++ e ∷ [])) all (more es e (map recorded_of told) _ last recalls)

  recalled_by : (e : EntryFields) (es : List EntryFields) (told told' : List Recorded) → IsAdded archive e told told' (Ok tt) →
      Recalls archive es (map recorded_of told) → Recalls archive (es ++ e ∷ []) (map recorded_of told')
  recalled_by e es told told' (inl end) recalls = subst (λ t. Recalls archive (es ++ e ∷ []) (map recorded_of t)) (sym end.1) (recalled_end e es told end.0 recalls)
  recalled_by e es told told' (inr one) recalls = recalled_one e es told told' one.0 one.1 one.2 one.3 recalls

  pub recalled : (entries : List Entry) (n : ℕ) (d : Entry) (told told' : List Recorded) → n < length entries →
      IsAdded archive (entry_of (slice_index_or entries n d)) told told' (Ok tt) → AreRecalled entries n told → AreRecalled entries (n + 1) told'
  recalled entries n d told told' within added recalls =
      subst (λ es. Recalls archive es (map recorded_of told')) (sym (taken entries n d within))
      (recalled_by (entry_of (slice_index_or entries n d)) (map entry_of (take n entries)) told told' added recalls)

  pub lost : (entries : List Entry) (n : ℕ) (d : Entry) (told told' : List Recorded) (fault : RecallFault) → n < length entries →
      IsAdded archive (entry_of (slice_index_or entries n d)) told told' (Err fault) → IsLostIn archive (map entry_of entries) fault
  lost entries n d told told' (Lost digest) within is =
      let long = length-map entries entry_of in
      let e = entry_of (slice_index_or entries n d) in
      (e, (n, omega (arith, within, long), get_or-map entry_of entries n d e within), is)
  lost entries n d told told' NoMemory within is = tt
