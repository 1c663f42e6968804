-- The next record.
use Rattle.std.proofs.Common.{◌≡◌, ◌≢◌, ℕ, suc, ◌+◌, ◌<◌, ◌≤◌, List, ◌∷◌, length, map, drop, slice_index_or, sym, ◌∙◌, subst, arith}
use Rattle.std.proofs.Math.Seq.{drop-cons}
use Rattle.std.proofs.lemmas.List.{get_or-map, length-map, drop_all}
use Rattle.ttx_archive.specs.Archives.{recorded_of, told_of}
use Rattle.ttx_archive.specs.declared.recorded.Recorded.{Recorded}
use Rattle.ttx_archive.specs.declared.recorded.Told.{Told}
use Rattle.ttx_broadcast.specs.LogNewsrooms.{IsNotDue}

module _ (records : List Recorded) (next : ℕ) (d : Recorded) (within : next < length records) where
  head : drop next (map recorded_of records) ≡ recorded_of (slice_index_or records next d) ∷ drop (next + 1) (map recorded_of records)
  head =
      let long = length-map records recorded_of in
      let inside : next < length (map recorded_of records) = omega (arith, within, long) in
      let one : suc next ≡ next + 1 = omega arith in
      drop-cons (map recorded_of records) next (recorded_of d) inside
      ∙ (λ i. get_or-map recorded_of records next d (recorded_of d) within i ∷ drop (one i) (map recorded_of records))

  pub due : (field : ℕ) (told : Told) → (slice_index_or records next d).field ≡ field → (slice_index_or records next d).told ≡ told →
      drop next (map recorded_of records) ≡ record { field = field; told = told_of told } ∷ drop (next + 1) (map recorded_of records)
  due field told same same_told =
      head ∙ (λ i. record { field = same i; told = told_of (same_told i) } ∷ drop (next + 1) (map recorded_of records))

  pub not_due : (field : ℕ) → (slice_index_or records next d).field ≢ field → IsNotDue field (drop next (map recorded_of records))
  not_due field other = subst (IsNotDue field) (sym head) other

pub none_left : (records : List Recorded) (next field : ℕ) → length records ≤ next → IsNotDue field (drop next (map recorded_of records))
none_left records next field past =
    let long = length-map records recorded_of in
    subst (IsNotDue field) (sym (drop_all next (map recorded_of records) (omega (arith, past, long)))) tt
