-- A packet X/27/0 as it is received.
use Rattle.std.proofs.Common.{◌≡◌, ℕ, zero, suc, ◌+◌, ◌-◌, ◌*◌, ◌/◌, ◌%◌, ◌<◌, ◌≤◌, ◌==◌, ◌&&◌, Bool, true, false, List, [], ◌∷◌, Some, is_some}
use Rattle.std.proofs.Common.{length, get_or, drop, refl, sym, ap, ◌∙◌, arith, slice_index, slice_range}
use Rattle.std.specs.List.{list_all}
use Rattle.std.specs.Prelude.{unwrap_or}
use Rattle.std.proofs.lemmas.Bool.{and_parts}
use Rattle.std.proofs.lemmas.List.{get_or-take, get_or-drop, length-take-le, length-drop}
use Rattle.ttx_code.specs.Words.{reading, is_word}
use Rattle.ttx_code.specs.Laws.{WordsHaveNumbers}
use Rattle.ttx_packet.specs.Slots.{IsSlot, are_readable}
use Rattle.ttx_header.specs.Headers.{number}
use Rattle.ttx_header.specs.Ids.{id_at}
use Rattle.ttx_header.specs.Laws.{WordsAreKept}
use Rattle.ttx_links.specs.Sets.{target_magazine, linked, link_at, set_of, links_of, is_exact}
use Rattle.ttx_links.specs.Laws.{LinksAreKept}

pub passes_at : (test : ℕ → Bool) (xs : List ℕ) (k : ℕ) → list_all test xs ≡ true → k < length xs → test (get_or xs k 0) ≡ true
passes_at test [] k h l = absurd (omega arith)
passes_at test (x ∷ xs) zero h l = (and_parts (test x) (list_all test xs) h).0
passes_at test (x ∷ xs) (suc k) h l = passes_at test xs k (and_parts (test x) (list_all test xs) h).1 (omega arith)

pub all_pass : (test : ℕ → Bool) (xs : List ℕ) → ((k : ℕ) → k < length xs → test (get_or xs k 0) ≡ true) → list_all test xs ≡ true
all_pass test [] h = refl
all_pass test (x ∷ xs) h = both (test x) (list_all test xs) (h 0 (omega arith)) (all_pass test xs (λ k l. h (suc k) (omega arith)))
  where
    both : (a b : Bool) → a ≡ true → b ≡ true → (a && b) ≡ true
    both true b e f = f
    both false b e f = e

pub at_range : (s : List ℕ) (a b k : ℕ) → k < b - a → get_or (slice_range s a b) k 0 ≡ get_or s (a + k) 0
at_range s a b k l = get_or-take (b - a) (drop a s) k 0 l ∙ get_or-drop a s k 0

pub length_range : (s : List ℕ) (a b : ℕ) → b ≤ length s → a ≤ b → length (slice_range s a b) ≡ b - a
length_range s a b l m = length-take-le (b - a) (drop a s) (omega (arith, length-drop a s))

long : (t : List ℕ) → length t ≡ 42 → length (slice_range t 3 40) ≡ 37
long t size = length_range t 3 40 (omega (arith, size)) (omega arith)

-- each code word reads as a number
words_are_numbered : WordsHaveNumbers → (s : List ℕ) → IsSlot s → is_exact s ≡ true → (k : ℕ) → k < 37 → is_some (reading (slice_index s (3 + k))) ≡ true
words_are_numbered numbers s is exact k l =
    let there : is_word (slice_index s (3 + k)) ≡ true =
    ap is_word (sym (at_range s 3 40 k (omega arith)))
    ∙ passes_at is_word (slice_range s 3 40) k exact (omega (arith, long s is.size)) in
    ap is_some (numbers _ (is.bytes (3 + k)) there).0

-- code words are readable
pub words_are_readable : WordsHaveNumbers → (s : List ℕ) → IsSlot s → is_exact s ≡ true → are_readable (slice_range s 3 40) ≡ true
words_are_readable numbers s is exact = all_pass (λ b. is_some (reading b)) (slice_range s 3 40) (λ k l.
    ap (λ b. is_some (reading b)) (at_range s 3 40 k (omega (arith, l, long s is.size)))
    ∙ words_are_numbered numbers s is exact k (omega (arith, l, long s is.size)))

module _ (numbers : WordsHaveNumbers) (kept : WordsAreKept) where
  pub links_are_kept : LinksAreKept
  unfolding links_of
  links_are_kept sent received mag s r exact near = rw (readable_received, readable_sent) (ap Some set)
    where
      same : (x : ℕ) → 3 ≤ x → x < 40 → reading (slice_index received x) ≡ reading (slice_index sent x)
      same = kept sent received 3 40 s r (omega arith) exact near

      readable_sent : are_readable (slice_range sent 3 40) ≡ true
      readable_sent = words_are_readable numbers sent s exact

      readable_received : are_readable (slice_range received 3 40) ≡ true
      readable_received = all_pass (λ b. is_some (reading b)) (slice_range received 3 40) (λ k l.
          ap (λ b. is_some (reading b)) (at_range received 3 40 k (omega (arith, l, long received r.size)))
          ∙ ap is_some (same (3 + k) (omega arith) (omega (arith, l, long received r.size)))
          ∙ words_are_numbered numbers sent s exact k (omega (arith, l, long received r.size)))

      n : (x : ℕ) → 3 ≤ x → x < 40 → number received x ≡ number sent x
      n x l m = ap (λ o. unwrap_or o 0) (same x l m)

      link : (k : ℕ) → 3 ≤ k → k + 5 < 40 → link_at mag received k ≡ link_at mag sent k
      link k l m =
          let e0 = n k l (omega arith) in
          let e1 = n (k + 1) (omega arith) (omega arith) in
          let e2 = n (k + 2) (omega arith) (omega arith) in
          let e3 = n (k + 3) (omega arith) (omega arith) in
          let e4 = n (k + 4) (omega arith) (omega arith) in
          let e5 = n (k + 5) (omega arith) (omega arith) in
          λ i. linked (id_at (target_magazine mag (e3 i / 8 + 2 * (e5 i / 4))) (e0 i + 16 * e1 i)
          (e2 i + 16 * (e3 i % 8) + 256 * e4 i + 4096 * (e5 i % 4)))

      set : set_of mag received ≡ set_of mag sent
      set =
          let a = link 3 (omega arith) (omega arith) in
          let b = link 9 (omega arith) (omega arith) in
          let c = link 15 (omega arith) (omega arith) in
          let d = link 21 (omega arith) (omega arith) in
          let e = link 27 (omega arith) (omega arith) in
          let f = link 33 (omega arith) (omega arith) in
          let control = n 39 (omega arith) (omega arith) in
          λ i. record { six = a i ∷ b i ∷ c i ∷ d i ∷ e i ∷ f i ∷ []; show24 = control i / 8 == 1 }
