-- A slot of the kind of a page header is readable as one.
use Rattle.std.proofs.Common.{◌≡◌, ℕ, ◌==◌, ◌&&◌, List, [], ◌∷◌, length, Bool, true, false, Option, Some, None, nat_le, is_some}
use Rattle.std.proofs.Common.{unwrap_or, slice_index, slice_range, refl, sym, ap, ◌∙◌, subst, arith}
use Rattle.std.proofs.lemmas.Bool.{and_from, cond_both}
use Rattle.ttx_code.specs.Words.{reading}
use Rattle.ttx_packet.specs.Slots.{Kind, IsEmpty, IsUnreadable, IsHeader, IsRow, IsLinks, IsInfo, IsOther, kind_of, packet_kind, addressed_kind}
use Rattle.ttx_packet.specs.Slots.{links_kind, is_empty, are_readable, magazine, packet_number}
use Rattle.ttx_header.specs.Headers.{is_header}

abbrev pub IsHeaderKind : Kind → Type 0
IsHeaderKind (IsHeader mag) = Unit {0}
IsHeaderKind _ = ⊥

not_links : (mag : ℕ) (designation : Option ℕ) → IsHeaderKind (links_kind mag designation) → ⊥
not_links mag None h = h
not_links mag (Some d) h = cond_both (d == 0) (IsLinks mag) (IsOther mag 27) (λ k. IsHeaderKind k → ⊥) (λ _ f. f) (λ _ f. f) h

-- the packet number is 0, and bytes 2 to 9 are readable
header_packet : (slot : List ℕ) (mag number : ℕ) → IsHeaderKind (packet_kind slot mag number) → ((number == 0) ≡ true)
    × (are_readable (slice_range slot 2 10) ≡ true)
unfolding packet_kind
header_packet slot mag number =
    let Q : Type 0 = ((number == 0) ≡ true) × (are_readable (slice_range slot 2 10) ≡ true) in
    let P : Kind → Type 0 = λ k. IsHeaderKind k → Q in
    cond_both (number == 0) _ _ P
    (λ z. cond_both (are_readable (slice_range slot 2 10)) (IsHeader mag) IsUnreadable P (λ r _. (z, r)) (λ _ h. absurd h))
    (λ _. cond_both (nat_le number 24) (IsRow mag number) _ P (λ _ h. absurd h)
    (λ _. cond_both (number == 27) _ _ P (λ _ h. absurd (not_links mag (reading (slice_index slot 2)) h))
    (λ _. cond_both ((number == 30) && (mag == 8)) IsInfo (IsOther mag number) P (λ _ h. absurd h) (λ _ h. absurd h))))

-- and the bytes of the address are readable too
header_address : (slot : List ℕ) (low high : Option ℕ) → IsHeaderKind (addressed_kind slot low high) →
    (is_some low ≡ true) × (is_some high ≡ true) × ((packet_number (unwrap_or low 0) (unwrap_or high 0) == 0) ≡ true)
    × (are_readable (slice_range slot 2 10) ≡ true)
header_address slot None high h = absurd h
header_address slot (Some low) None h = absurd h
header_address slot (Some low) (Some high) h =
    let p = header_packet slot (magazine low) (packet_number low high) h in
    (refl, refl, p.0, p.1)

-- the first ten bytes of a slot
ten_bytes : (slot : List ℕ) → length slot ≡ 42 → slice_range slot 0 10 ≡ slice_index slot 0 ∷ slice_index slot 1 ∷ slice_range slot 2 10
ten_bytes [] e = absurd (omega arith)
ten_bytes (a ∷ []) e = absurd (omega arith)
ten_bytes (a ∷ b ∷ rest) e = refl

all_three : (a b c : Bool) → a ≡ true → b ≡ true → c ≡ true → (a && (b && c)) ≡ true
all_three true true true p q r = refl
all_three false b c p q r = p
all_three true false c p q r = q
all_three true true false p q r = r

pub kind_is_header : (slot : List ℕ) (mag : ℕ) → length slot ≡ 42 → kind_of slot ≡ IsHeader mag → is_header slot ≡ true
unfolding kind_of
kind_is_header slot mag size same =
    let k : IsHeaderKind (kind_of slot) = subst IsHeaderKind (sym same) tt in
    let p = cond_both (is_empty slot) IsEmpty _
    (λ k. IsHeaderKind k → IsHeaderKind (addressed_kind slot (reading (slice_index slot 0)) (reading (slice_index slot 1))))
    (λ _ h. absurd h) (λ _ h. h) k in
    let a = header_address slot (reading (slice_index slot 0)) (reading (slice_index slot 1)) p in
    and_from _ _ (ap are_readable (ten_bytes slot size) ∙ all_three _ _ _ a.0 a.1 a.3) a.2
