-- The kind of a page header.
use Rattle.std.proofs.Common.{◌≡◌, ℕ, ◌==◌, ◌&&◌, true, false, List, Option, Some, None, is_some, nat_le, refl, sym, ap, subst}
use Rattle.std.proofs.Common.{◌∙◌, slice_index, slice_range}
use Rattle.std.specs.Prelude.{unwrap_or}
use Rattle.std.proofs.lemmas.Bool.{cond_both}
use Rattle.ttx_code.specs.Words.{reading}
use Rattle.ttx_packet.specs.Slots.{Kind, IsEmpty, IsUnreadable, IsHeader, IsRow, IsLinks, IsInfo, IsOther, is_empty, are_readable, magazine}
use Rattle.ttx_packet.specs.Slots.{packet_number, links_kind, packet_kind, addressed_kind, kind_of, read_number}
use Rattle.ttx_header.proofs.Slices.{some_of}

-- the magazine of a header; 0 for every other kind
abbrev header_mag : Kind → ℕ
header_mag (IsHeader mag) = mag
header_mag _ = 0

abbrev IsOne : Kind → Type 0
IsOne (IsHeader mag) = Unit {0}
IsOne _ = ⊥

is_one : (k : Kind) (mag : ℕ) → k ≡ IsHeader mag → IsOne k
is_one k mag e = subst IsOne (sym e) tt

-- a slot of the kind header is not empty, its address is readable, its packet number is 0, and bytes 2 to 9 are readable
pub record HeaderCase (s : List ℕ) (mag : ℕ) : Type 0 where
  pub some : is_empty s ≡ false
  pub low : is_some (reading (slice_index s 0)) ≡ true
  pub high : is_some (reading (slice_index s 1)) ≡ true
  pub number : (read_number s == 0) ≡ true
  pub readable : are_readable (slice_range s 2 10) ≡ true
  pub magazine_is : magazine (unwrap_or (reading (slice_index s 0)) 0) ≡ mag

links_is_none : (mag : ℕ) (o : Option ℕ) → IsOne (links_kind mag o) → ⊥
links_is_none mag None e = e
links_is_none mag (Some d) e = cond_both (d == 0) (IsLinks mag) (IsOther mag 27) (λ k. IsOne k → ⊥) (λ _ f. f) (λ _ f. f) e

by_number : (s : List ℕ) (m number mag : ℕ) → packet_kind s m number ≡ IsHeader mag → ((number == 0) ≡ true)
    × (are_readable (slice_range s 2 10) ≡ true) × (m ≡ mag)
unfolding packet_kind
by_number s m number mag =
    let P : Kind → Type 0 = λ k. k ≡ IsHeader mag → ((number == 0) ≡ true) × (are_readable (slice_range s 2 10) ≡ true) × (m ≡ mag) in
    cond_both (number == 0) _ _ P
    (λ zero. cond_both (are_readable (slice_range s 2 10)) (IsHeader m) IsUnreadable P (λ readable e. (zero, readable, ap header_mag e))
    (λ _ e. absurd (is_one _ mag e)))
    (λ _. cond_both (nat_le number 24) (IsRow m number) _ P (λ _ e. absurd (is_one _ mag e))
    (λ _. cond_both (number == 27) _ _ P (λ _ e. absurd (links_is_none m (reading (slice_index s 2)) (is_one _ mag e)))
    (λ _. cond_both ((number == 30) && (m == 8)) IsInfo (IsOther m number) P (λ _ e. absurd (is_one _ mag e)) (λ _ e. absurd (is_one _ mag e)))))

by_address : (s : List ℕ) (mag : ℕ) → is_empty s ≡ false → (o p : Option ℕ) → reading (slice_index s 0) ≡ o → reading (slice_index s 1) ≡ p →
    addressed_kind s o p ≡ IsHeader mag → HeaderCase s mag
by_address s mag some None p e f k = absurd (is_one _ mag k)
by_address s mag some (Some low) None e f k = absurd (is_one _ mag k)
by_address s mag some (Some low) (Some high) e f k =
    let (zero, readable, same) = by_number s (magazine low) (packet_number low high) mag k in
    record {
      some = some;
      low = ap is_some e;
      high = ap is_some f;
      number = ap (λ o. packet_number (unwrap_or o 0) (unwrap_or (reading (slice_index s 1)) 0) == 0) e
          ∙ ap (λ o. packet_number low (unwrap_or o 0) == 0) f ∙ zero;
      readable = readable;
      magazine_is = ap (λ o. magazine (unwrap_or o 0)) e ∙ same;
    }

pub header_case : (s : List ℕ) (mag : ℕ) → kind_of s ≡ IsHeader mag → HeaderCase s mag
unfolding kind_of
header_case s mag =
    cond_both (is_empty s) IsEmpty _ (λ k. k ≡ IsHeader mag → HeaderCase s mag) (λ _ e. absurd (is_one _ mag e))
    (λ some. by_address s mag some (reading (slice_index s 0)) (reading (slice_index s 1)) refl refl)

-- ---- the kind of a packet 0

pub kind_of_header : (s : List ℕ) → is_empty s ≡ false → is_some (reading (slice_index s 0)) ≡ true →
    is_some (reading (slice_index s 1)) ≡ true → (read_number s == 0) ≡ true →
    are_readable (slice_range s 2 10) ≡ true → kind_of s ≡ IsHeader (magazine (unwrap_or (reading (slice_index s 0)) 0))
unfolding kind_of packet_kind
kind_of_header s some low high number readable = rw (some, some_of _ low, some_of _ high, number, readable) refl
