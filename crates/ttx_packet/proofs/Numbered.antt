-- The packet numbers of rows.
use Rattle.std.proofs.Common.{◌≡◌, ℕ, ◌≤◌, false, ◌&&◌, ◌==◌, List, get_or, Option, Some, None, subst, arith}
use Rattle.std.proofs.lemmas.Bool.{leb-true, cond_both}
use Rattle.std.proofs.lemmas.Bool.Decides.{nat_tests}
use Rattle.std.specs.Prelude.{nat_le}
use Rattle.ttx_code.specs.Words.{reading}
use Rattle.ttx_packet.specs.Slots.{Kind, IsEmpty, IsUnreadable, IsHeader, IsRow, IsLinks, IsInfo, IsOther, is_empty, packet_kind, links_kind}
use Rattle.ttx_packet.specs.Slots.{addressed_kind, kind_of}

-- the packet number of a row is 1 to 24
abbrev IsNumbered : Kind → Type 0
IsNumbered (IsRow mag number) = (1 ≤ number) × (number ≤ 24)
IsNumbered (IsHeader mag) = Unit {0}
IsNumbered (IsLinks mag) = Unit {0}
IsNumbered IsEmpty = Unit {0}
IsNumbered IsUnreadable = Unit {0}
IsNumbered IsInfo = Unit {0}
IsNumbered (IsOther mag number) = Unit {0}

numbered_links : (mag : ℕ) (d : Option ℕ) → IsNumbered (links_kind mag d)
numbered_links mag None = tt
numbered_links mag (Some d) = cond_both (d == 0) (IsLinks mag) (IsOther mag 27) IsNumbered (λ _. tt) (λ _. tt)

numbered_packet : (slot : List ℕ) (mag number : ℕ) → IsNumbered (packet_kind slot mag number)
unfolding packet_kind
numbered_packet slot mag number =
    cond_both (number == 0) _ _ IsNumbered (λ _. cond_both _ (IsHeader mag) IsUnreadable IsNumbered (λ _. tt) (λ _. tt))
    (λ n. cond_both (nat_le number 24) _ _ IsNumbered (λ l. (positive n, leb-true number 24 l))
    (λ _. cond_both (number == 27) _ _ IsNumbered (λ _. numbered_links mag (reading (get_or slot 2 0)))
    (λ _. cond_both ((number == 30) && (mag == 8)) IsInfo (IsOther mag number) IsNumbered (λ _. tt) (λ _. tt))))
  where
    positive : (number == 0) ≡ false → 1 ≤ number
    positive e = grind (arith, nat_tests)

numbered_address : (slot : List ℕ) (low high : Option ℕ) → IsNumbered (addressed_kind slot low high)
numbered_address slot None high = tt
numbered_address slot (Some low) None = tt
numbered_address slot (Some low) (Some high) = numbered_packet slot _ _

numbered_slot : (slot : List ℕ) → IsNumbered (kind_of slot)
unfolding kind_of
numbered_slot slot = cond_both (is_empty slot) IsEmpty _ IsNumbered (λ _. tt)
    (λ _. numbered_address slot (reading (get_or slot 0 0)) (reading (get_or slot 1 0)))

pub row_number : (slot : List ℕ) (mag number : ℕ) → kind_of slot ≡ IsRow mag number → (1 ≤ number) × (number ≤ 24)
row_number slot mag number e = subst IsNumbered e (numbered_slot slot)
