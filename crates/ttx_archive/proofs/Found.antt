-- A search for a digest.
use Rattle.std.proofs.Common.{◌≡◌, ◌≢◌, ℕ, ◌+◌, ◌<◌, ◌≤◌, ◌==◌, true, false, List, length, map, slice_index_or, sym, ap, ◌∙◌, inl, inr, arith}
use Rattle.std.proofs.lemmas.List.{get_or-map, length-map}
use Rattle.std.proofs.lemmas.Bool.{cases_Bool, true≢false}
use Rattle.std.proofs.lemmas.Bool.Decides.{nat_tests}
use Rattle.std.proofs.lemmas.Slice.Eq.{bytes_eq-Decides}
use Rattle.std.specs.Prelude.{string_bytes}
use Rattle.std.specs.Str.{bytes_eq}
use Rattle.ttx_archive.specs.Archives.{text_of, digest_of, IsFiled, IsLost}
use Rattle.ttx_archive.specs.declared.filed.FiledText.{FiledText}

-- none of the first texts has the digest
abbrev pub AreOthers : List FiledText → List ℕ → ℕ → Type 0
AreOthers archive digest n = (k : ℕ) (d : List ℕ) → k < n → k < length archive → digest_of (slice_index_or (map text_of archive) k d) ≢ digest

module _ (archive : List FiledText) (digest : List ℕ) (n : ℕ) (filed : FiledText) (within : n < length archive)
    (is : filed ≡ slice_index_or archive n filed) where
  at : (d : List ℕ) → slice_index_or (map text_of archive) n d ≡ text_of filed
  at d = get_or-map text_of archive n filed d within ∙ sym (ap text_of is)

  pub found : (shown : List ℕ) → shown ≡ string_bytes filed.digest → true ≡ bytes_eq shown digest → IsFiled (map text_of archive) digest (text_of filed)
  found shown own same =
      let long = length-map archive text_of in
      ((n, omega (arith, within, long), at (text_of filed)), sym filed.is_digest ∙ sym own ∙ (bytes_eq-Decides shown digest).0 (sym same))

  pub others : (shown : List ℕ) → shown ≡ string_bytes filed.digest → false ≡ bytes_eq shown digest → AreOthers archive digest n → AreOthers archive digest (n + 1)
  others shown own other before k d lt inside same = elim (cases_Bool (k == n)) [
    | inl here ↦
        let k_is : k ≡ n = grind (arith, nat_tests) in
        let text : digest_of (text_of filed) ≡ digest = sym (ap digest_of (ap (λ i. slice_index_or (map text_of archive) i d) k_is ∙ at d)) ∙ same in
        true≢false (sym ((bytes_eq-Decides shown digest).1 (own ∙ filed.is_digest ∙ text)) ∙ sym other)
    | inr there ↦
        let less : k < n = grind (arith, nat_tests) in
        before k d less inside same
  ]

pub none_found : (archive : List FiledText) (digest : List ℕ) (n : ℕ) → length archive ≤ n → AreOthers archive digest n → IsLost (map text_of archive) digest
none_found archive digest n all before text (k, within, here) same =
    let long = length-map archive text_of in
    before k text (omega (arith, within, long, all)) (omega (arith, within, long)) (ap digest_of here ∙ same)
