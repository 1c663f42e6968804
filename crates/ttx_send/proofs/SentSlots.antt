-- Slots as they are sent, one after the other.
use Rattle.std.proofs.Common.{[], ◌≡◌, ℕ, zero, suc, ◌+◌, ◌<◌, ◌≤◌, ◌*◌, ◌-◌, ◌/◌, ◌%◌, ℤ, pos, ◌+ℤ◌, List, ◌∷◌, ◌++◌, length, take, append_assoc}
use Rattle.std.proofs.Common.{refl, sym, ap, ◌∙◌, arith, get_or}
use Rattle.std.proofs.lemmas.Int.{ints}
use Rattle.std.proofs.lemmas.Grind.{flat_map-append}
use Rattle.std.proofs.lemmas.List.{append-nil}
use Rattle.std.proofs.lemmas.Nat.{div-mul-add}
use Rattle.std.proofs.Math.Nat.{add-mul, one-mul, mul-le-mul_right, mul-add-div_right, div-lt_iff_lt-mul, mod-add-div, add-mul-mod_self_left}
use Rattle.std.proofs.Math.Seq.{take-append-add}
use Rattle.std.proofs.lemmas.List.{take-append-le}
use Rattle.ttx_cycle.specs.Files.{file_of}
use Rattle.ttx_page.specs.Streams.{Stream, repeated}
use Rattle.ttx_page.specs.Laws.{sent_from}
use Rattle.ttx_send.specs.Laws.{SentFileIsTheAir}
use Rattle.ttx_send.specs.Airing.{at_time, field_time, at_moment, Broadcast, on_air, sent_slots}

-- the place after place (first + n) of m places, round
pub next_round : (first n m : ℕ) → ((first + n) % m + 1) % m ≡ (first + (n + 1)) % m
next_round first n m =
    let a = first + n in
    let e : first + (n + 1) ≡ (a % m + 1) + m * (a / m) = omega (arith, mod-add-div a m) in
    sym (ap (λ x. x % m) e ∙ add-mul-mod_self_left (a % m + 1) m (a / m))

-- n slots and m more
pub sent_both : (s : Stream) (tau : ℤ) (n m : ℕ) → sent_from s tau (n + m) ≡ sent_from s tau n ++ sent_from s (tau +ℤ pos n) m
sent_both s tau zero m =
    let e : tau ≡ tau +ℤ pos 0 = omega (arith, ints) in
    let z : 0 + m ≡ m = omega arith in
    ap (sent_from s tau) z ∙ ap (λ t. sent_from s t m) e
sent_both s tau (suc n) m =
    let e : (tau +ℤ pos 1) +ℤ pos n ≡ tau +ℤ pos (suc n) = omega (arith, ints) in
    let z : suc n + m ≡ suc (n + m) = omega arith in
    ap (sent_from s tau) z ∙ ap (λ l. s tau ∷ l) (sent_both s (tau +ℤ pos 1) n m ∙ ap (λ t. sent_from s (tau +ℤ pos 1) n ++ sent_from s t m) e)

-- the bytes of one slot more
pub file_more : (s : Stream) (first n : ℕ) → file_of (sent_from s (pos first) (n + 1)) ≡ file_of (sent_from s (pos first) n) ++ s (pos (first + n))
file_more s first n =
    ap file_of (sent_both s (pos first) n 1) ∙ flat_map-append (λ slot. slot) (sent_from s (pos first) n) (sent_from s (pos (first + n)) 1)
    ∙ ap (λ l. file_of (sent_from s (pos first) n) ++ l) (append-nil (s (pos (first + n))))

-- streams that agree on n slots
pub same_from : (s s' : Stream) (first n : ℕ) → ((k : ℕ) → k < n → s (pos (first + k)) ≡ s' (pos (first + k))) →
    sent_from s (pos first) n ≡ sent_from s' (pos first) n
same_from s s' first zero same = refl
same_from s s' first (suc n) same =
    let z : first + 0 ≡ first = omega arith in
    let head : s (pos first) ≡ s' (pos first) = ap (λ j. s (pos j)) (sym z) ∙ same 0 (omega arith) ∙ ap (λ j. s' (pos j)) z in
    let tail : sent_from s (pos (first + 1)) n ≡ sent_from s' (pos (first + 1)) n =
    same_from s s' (first + 1) n (λ k l.
    let e : (first + 1) + k ≡ first + suc k = omega arith in
    ap (λ j. s (pos j)) e ∙ same (suc k) (omega arith) ∙ ap (λ j. s' (pos j)) (sym e))
    in
    λ i. head i ∷ tail i

-- the field of a slot
field_of : (phase field lines k : ℕ) → 0 < lines → ((phase + field) * lines + k) / lines - phase ≡ field + k / lines
field_of phase field lines k some =
    let e : ((phase + field) * lines + k) / lines ≡ (phase + field) + k / lines = mul-add-div_right some (phase + field) k in
    omega (arith, e)

-- the slots of some fields more, all of one second
module _ (s : Broadcast) where
  abbrev pub piece_slots : ℕ → ℕ → List (List ℕ)
  piece_slots field m = sent_from (at_moment s.cycle (field_time s.times field)) (pos ((s.phase + field) * s.lines)) (m * s.lines)

  pub slots_more : (field m : ℕ) → 0 < s.lines → ((n : ℕ) → n < m → (field + n) / 50 ≡ field / 50) →
      sent_slots s (field + m) ≡ sent_slots s field ++ piece_slots field m
  slots_more field m some second =
      let first = (s.phase + field) * s.lines in
      let place : s.phase * s.lines + field * s.lines ≡ first = sym (add-mul s.phase field s.lines) in
      ap (sent_from (on_air s) (pos (s.phase * s.lines))) (add-mul field m s.lines)
      ∙ sent_both (on_air s) (pos (s.phase * s.lines)) (field * s.lines) (m * s.lines)
      ∙ ap (λ l. sent_slots s field ++ l)
      (ap (λ j. sent_from (on_air s) (pos j) (m * s.lines)) place
      ∙ same_from (on_air s) (at_moment s.cycle (field_time s.times field)) first (m * s.lines)
      (λ k l. ap (λ t. at_time t (repeated s.cycle (pos (first + k))))
      (ap (field_time s.times) (field_of s.phase field s.lines k some) ∙ ap s.times (second (k / s.lines) ((div-lt_iff_lt-mul some).1 l)))))

  pub bytes_more : (field m : ℕ) → 0 < s.lines → ((n : ℕ) → n < m → (field + n) / 50 ≡ field / 50) →
      file_of (sent_slots s (field + m)) ≡ file_of (sent_slots s field) ++ file_of (piece_slots field m)
  bytes_more field m some second =
      ap file_of (slots_more field m some second) ∙ flat_map-append (λ slot. slot) (sent_slots s field) (piece_slots field m)

  -- what follows after so many fields
  pub bytes_after : (field fields : ℕ) → field ≤ fields → (rest : List ℕ) × (file_of (sent_slots s fields) ≡ file_of (sent_slots s field) ++ rest)
  bytes_after field fields l =
      let count : field * s.lines + (fields - field) * s.lines ≡ fields * s.lines =
      sym (add-mul field (fields - field) s.lines) ∙ ap (λ n. n * s.lines) (let e : field + (fields - field) ≡ fields = omega arith in e)
      in (
        file_of (sent_from (on_air s) (pos (s.phase * s.lines + field * s.lines)) ((fields - field) * s.lines)),
        ap (λ n. file_of (sent_from (on_air s) (pos (s.phase * s.lines)) n)) (sym count)
            ∙ ap file_of (sent_both (on_air s) (pos (s.phase * s.lines)) (field * s.lines) ((fields - field) * s.lines))
            ∙ flat_map-append (λ slot. slot) (sent_slots s field)
            (sent_from (on_air s) (pos (s.phase * s.lines + field * s.lines)) ((fields - field) * s.lines)),
      )

-- the front of a list whose parts are known
pub take_parts : (whole front part rest : List ℕ) (at n : ℕ) → whole ≡ (front ++ part) ++ rest → length front ≡ at → n ≤ length part →
    take (at + n) whole ≡ front ++ take n part
take_parts whole front part rest at n e size fits =
    ap (take (at + n)) (e ∙ append_assoc front part rest) ∙ ap (λ m. take (m + n) (front ++ (part ++ rest))) (sym size)
    ∙ take-append-add front (part ++ rest) n ∙ ap (λ l. front ++ l) (take-append-le n part rest fits)

-- ---- one slot of what is sent

long_from : (s : Stream) (tau : ℤ) (n : ℕ) → length (sent_from s tau n) ≡ n
long_from s tau zero = refl
long_from s tau (suc n) = ap suc (long_from s (tau +ℤ pos 1) n)

from_at : (s : Stream) (tau : ℤ) (n k : ℕ) → k < n → get_or (sent_from s tau n) k [] ≡ s (tau +ℤ pos k)
from_at s tau zero k h = absurd (omega arith)
from_at s tau (suc n) zero h = let e : tau ≡ tau +ℤ pos 0 = omega (arith, ints) in ap s e
from_at s tau (suc n) (suc k) h =
    let e : (tau +ℤ pos 1) +ℤ pos k ≡ tau +ℤ pos (suc k) = omega (arith, ints) in
    from_at s (tau +ℤ pos 1) n k (omega arith) ∙ ap s e

pub sent_file_is_the_air : SentFileIsTheAir
sent_file_is_the_air s fields field line before within =
    let first = s.phase * s.lines in
    let inside : field * s.lines + line < fields * s.lines =
    let m : (field + 1) * s.lines ≤ fields * s.lines = mul-le-mul_right s.lines (omega (arith, before)) in
    omega (arith, m, add-mul field 1 s.lines, one-mul s.lines, within)
    in
    let place : first + (field * s.lines + line) ≡ (s.phase + field) * s.lines + line = omega (arith, add-mul s.phase field s.lines) in
    let at : ((s.phase + field) * s.lines + line) / s.lines - s.phase ≡ field =
    let e : ((s.phase + field) * s.lines + line) / s.lines ≡ s.phase + field = div-mul-add (s.phase + field) s.lines line within in
    omega (arith, e)
    in (
      long_from (on_air s) (pos first) (fields * s.lines),
      from_at (on_air s) (pos first) (fields * s.lines) (field * s.lines + line) inside
          ∙ ap (λ j. on_air s (pos j)) place
          ∙ ap (λ n. at_time (field_time s.times n) (repeated s.cycle (pos ((s.phase + field) * s.lines + line)))) at,
    )
